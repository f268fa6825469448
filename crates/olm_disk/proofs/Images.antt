-- What a crash may leave.
use Rattle.std.proofs.Common.{◌≡◌, ◌≤◌, ◌<◌, ◌+◌, ◌⊎◌, inl, inr, ℕ, List, [], ◌∷◌, ◌++◌, Bool, false, length, take, drop, get_or, max, min, refl, sym, ap, ◌∙◌, subst, arith, length-append, length-take, length-drop}
use Rattle.std.proofs.lemmas.List.{ext_get_or, get_or-take}
use Rattle.std.specs.List.{fold}
use Rattle.olm_disk.specs.Disk.{Pending, nothing_pending, pending_write, pending_cut, MayLeave, written, Torn, PartlyCut, is_in}
use Rattle.olm_disk.specs.Kept.{Kept, begun, after, kept_after}
use Rattle.olm_disk.specs.declared.change.Change.{Change}
use Rattle.olm_disk.specs.declared.change.Change.TheVariants.{Wrote, Cut, LostWrite, LostCut, Synced}
use Rattle.olm_disk.specs.declared.change.Stage.{Stage}
use Rattle.olm_disk.proofs.Places.{out_of_first, out_of_one, length-written, written_elsewhere}

-- with nothing pending a crash leaves the content
pub only_content : (content image : List ℕ) → MayLeave content (nothing_pending content) image → image ≡ content
only_content content image left = ext_get_or 0 image content (omega (arith, left.shortest, left.longest)) (λ place lt. left.stays place (omega (arith, lt, left.longest)) refl)

pub content_itself : (content : List ℕ) → MayLeave content (nothing_pending content) content
content_itself content = record { shortest = omega arith; longest = omega arith; stays = λ place lt out. refl }

-- a call that failed and changed nothing
pub untouched : (at count : ℕ) (content : List ℕ) → Torn at count content content
untouched at count content = record { shortest = omega arith; longest = omega arith; stays = λ place lt out. refl }

pub uncut : (len : ℕ) (content : List ℕ) → len ≤ length content → PartlyCut len content content
uncut len content le = record { shortest = le; longest = omega arith; front = refl }

-- The length lies where a crash may leave it, and what the last good sync left is what a crash may leave.
pub record IsSound (kept : Kept) : Type 0 where
  pub shortest : kept.pending.least ≤ length kept.content
  pub longest : length kept.content ≤ kept.pending.greatest
  pub durable : MayLeave kept.content kept.pending kept.durable

begun_sound : (content : List ℕ) → IsSound (begun content)
begun_sound content = record { shortest = omega arith; longest = omega arith; durable = content_itself content }

-- a failed write and a good one keep what might be left
wider : (content : List ℕ) (p : Pending) (at count : ℕ) (image : List ℕ) → MayLeave content p image → MayLeave content (pending_write at count p) image
wider content p at count image may = record {
  shortest = may.shortest;
  longest = omega (arith, may.longest);
  stays = λ place lt out. may.stays place lt (out_of_first at (at + count) p.ranges place out).1;
}

pub overwritten : (content : List ℕ) (p : Pending) (at : ℕ) (piece image : List ℕ) → p.least ≤ length content → MayLeave content p image → MayLeave (written at piece content) (pending_write at (length piece) p) image
overwritten content p at piece image low may = record {
  shortest = may.shortest;
  longest = omega (arith, may.longest);
  stays = λ place lt out.
      let o = out_of_first at (at + length piece) p.ranges place out in
      may.stays place lt o.1 ∙ sym (written_elsewhere at piece content place (omega (arith, lt, low)) o.0);
}

lower : (content : List ℕ) (p : Pending) (len : ℕ) (image : List ℕ) → MayLeave content p image → MayLeave content (pending_cut len p) image
lower content p len image may = record {
  shortest = omega (arith, may.shortest);
  longest = may.longest;
  stays = λ place lt out. may.stays place (omega (arith, lt)) out;
}

pub shortened : (content : List ℕ) (p : Pending) (len : ℕ) (image : List ℕ) → MayLeave content p image → MayLeave (take len content) (pending_cut len p) image
shortened content p len image may = record {
  shortest = omega (arith, may.shortest);
  longest = may.longest;
  stays = λ place lt out. may.stays place (omega (arith, lt)) out ∙ sym (get_or-take len content place 0 (omega (arith, lt)));
}

pub after_sound : (kept : Kept) (change : Change) → IsSound kept → IsSound (after kept change)
after_sound kept (Wrote at bytes) s = record {
  shortest = omega (arith, s.shortest, length-written at bytes kept.content);
  longest = omega (arith, s.longest, length-written at bytes kept.content);
  durable = overwritten kept.content kept.pending at bytes kept.durable s.shortest s.durable;
}
after_sound kept (Cut len) s = record {
  shortest = omega (arith, s.shortest, length-take len kept.content);
  longest = omega (arith, s.longest, length-take len kept.content);
  durable = shortened kept.content kept.pending len kept.durable s.durable;
}
after_sound kept (LostWrite at count) s = record {
  shortest = s.shortest;
  longest = omega (arith, s.longest);
  durable = wider kept.content kept.pending at count kept.durable s.durable;
}
after_sound kept (LostCut len) s = record {
  shortest = omega (arith, s.shortest);
  longest = s.longest;
  durable = lower kept.content kept.pending len kept.durable s.durable;
}
after_sound kept Synced s = begun_sound kept.content

fold_sound : (kept : Kept) (stages : List Stage) → IsSound kept → IsSound (fold (λ (k : Kept) (stage : Stage). after k stage.change) kept stages)
fold_sound kept [] s = s
fold_sound kept (stage ∷ stages) s = fold_sound (after kept stage.change) stages (after_sound kept stage.change s)

pub kept_sound : (start : List ℕ) (stages : List Stage) → IsSound (kept_after start stages)
kept_sound start stages = fold_sound (begun start) stages (begun_sound start)

-- the content is always what a crash may leave
pub now_may : (kept : Kept) → IsSound kept → MayLeave kept.content kept.pending kept.content
now_may kept s = record { shortest = s.shortest; longest = s.longest; stays = λ place lt out. refl }

pub written_is_torn : (at : ℕ) (piece old : List ℕ) → at ≤ length old → Torn at (length piece) old (written at piece old)
written_is_torn at piece old within = record {
  shortest = omega (arith, within, length-written at piece old);
  longest = omega (arith, within, length-written at piece old);
  stays = λ place lt out. written_elsewhere at piece old place lt out;
}

-- where all was durable before a write, a crash after it tears at most its range
pub write_leaves : (at count : ℕ) (content now image : List ℕ) → Torn at count content now → MayLeave now (pending_write at count (nothing_pending content)) image → Torn at count content image
write_leaves at count content now image torn left = record {
  shortest = left.shortest;
  longest = left.longest;
  stays = λ place lt out. left.stays place lt (out_of_one at (at + count) place out) ∙ torn.stays place lt out;
}
