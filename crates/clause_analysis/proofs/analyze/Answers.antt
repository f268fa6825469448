use Rattle.std.proofs.Common.{◌≡◌, ℕ, suc, ◌+◌, ◌<◌, true, false, List, [], ◌∷◌, ◌++◌, length, take, drop, reverse, refl, sym, ap, ◌∙◌, subst, arith}
use Rattle.std.specs.List.{list_all}
use Rattle.std.proofs.lemmas.List.{length-replicate, reverse-append}
use Rattle.std.proofs.lemmas.Bool.{and_from}
use Rattle.op_constraints.specs.declared.Lit.{Lit}
use Rattle.op_constraints.specs.declared.Constraint.{Constraint}
use Rattle.op_constraints.specs.Meets.{at}
use Rattle.derivations.specs.declared.Hint.{Hint}
use Rattle.derivations.specs.Clauses.{is_in}
use Rattle.clause_trail.specs.declared.Cause.{Cause}
use Rattle.clause_trail.specs.declared.Cause.TheVariants.{Assumed, Decided, Forced}
use Rattle.clause_trail.specs.declared.Entry.{Entry}
use Rattle.clause_trail.specs.Trails.{literals, IsUnknown}
use Rattle.clause_analysis.specs.declared.needs.Rest.{Rest}
use Rattle.clause_analysis.specs.Caused.{is_assumed, is_decided, Stands, AllStand}
use Rattle.clause_analysis.specs.Needs.{needed_of, IsRest, IsStart}
use Rattle.clause_analysis.proofs.Marking.{length-marked}
use Rattle.clause_analysis.proofs.Needed.{take-later, take-last, newer_unknown, ordered-drop, stand-drop, entry_at, drop-all, passed_over}
use Rattle.clause_analysis.proofs.Resolving.{IsRefuting, at_conflict, passing, resolving}
use Rattle.clause_analysis.proofs.Results.{refuted_is, learnt_is}
use Rattle.clause_analysis.proofs.analyze.Goals as goal

pub loop-depth-init : goal.loop-depth-init
loop-depth-init c =
    let entries = c.args.trail.now.entries in
    let needed = c.add.new.self.needed.items in
    let none = c.in_ok-needs.needs.needed.items in
    let conflict = c.args.conflict.now in
    let size : length none ≡ c.args.trail.now.size = ap length c.in_ok-needs.ensures.needed ∙ (length-replicate c.size.result false ∙ c.size.ensures) in
    let hints : c.add.new.self.hints.items ≡ conflict.hint ∷ [] = c.in_ok-add.ensures.hints ∙ ap (λ (hs : List Hint). hs ++ conflict.hint ∷ []) c.in_ok-needs.ensures.hints in
    record {
      size = ap length c.in_ok-add.ensures.needed ∙ (length-marked none conflict.lits ∙ size);
      refuting = λ problem earlier caused s.
          subst (λ (hs : List Hint). IsRefuting problem earlier (literals (needed_of needed entries)) [] (reverse hs)) (sym hints)
          (at_conflict problem earlier entries c.args.trail.now.size none needed conflict.lits conflict.hint c.len-depth-end.ensures.ordered size c.in_ok-add.ensures.needed s.0 s.1);
    }

pub loop-depth-preserved-then-not-has : goal.loop-depth-preserved-then-not-has
loop-depth-preserved-then-not-has c =
    let entries = c.args.trail.now.entries in
    let needed = c.loop-depth.needs.needed.items in
    let d = c.loop-depth.depth in
    let e = c.entry-entry.result.now in
    let within : d < length entries = omega (arith, c.loop-depth-test.true, c.len-depth-end.ensures.count) in
    let there = entry_at entries d e within c.entry-entry.ensures in
    let unneeded : at needed e.lit.var ≡ false = sym c.has.ensures ∙ c.if-not-has.true in
    record {
      size = c.loop-depth.invariant.size;
      refuting = λ problem earlier caused s.
          passing problem earlier (literals (needed_of needed (drop d entries))) (literals (needed_of needed (drop (d + 1) entries))) (literals (take d entries)) (literals (take (d + 1) entries)) (reverse c.loop-depth.needs.hints.items)
          (ap literals (passed_over needed entries d e there unneeded))
          (λ m i. take-later d (d + 1) entries m (omega arith) i)
          (c.loop-depth.invariant.refuting problem earlier caused s);
    }

before : (problem : List (List Constraint)) (earlier : List (List Lit)) (older : List Entry) (l : Lit) (cause : Cause) → is_assumed cause ≡ true → Stands problem earlier older l cause → list_all (λ f. is_assumed f.cause) older ≡ true
before problem earlier older l Assumed a h = h
before problem earlier older l Decided a h = absurd (let bad : false ≡ true = a in cc)
before problem earlier older l (Forced reason) a h = absurd (let bad : false ≡ true = a in cc)

all_assumed : (problem : List (List Constraint)) (earlier : List (List Lit)) (entries : List Entry) (d : ℕ) (e : Entry) → drop d entries ≡ e ∷ drop (d + 1) entries → AllStand problem earlier entries → is_assumed e.cause ≡ true → list_all (λ f. is_assumed f.cause) (drop d entries) ≡ true
all_assumed problem earlier entries d e there a is =
    let stands = subst (λ (es : List Entry). AllStand problem earlier es) there (stand-drop problem earlier d entries a) in
    let older : List Entry = drop (d + 1) entries in
    ap (λ es. list_all (λ f. is_assumed f.cause) es) there
    ∙ and_from (is_assumed e.cause) (list_all (λ f. is_assumed f.cause) older) is (before problem earlier older e.lit e.cause is stands.0)

pub returns-in-Assumed : goal.returns-in-Assumed
returns-in-Assumed c = λ problem earlier caused s.
    let entries = c.args.trail.now.entries in
    let needed = c.loop-depth.needs.needed.items in
    let d = c.loop-depth.depth in
    let e = c.entry-entry.result.now in
    let within : d < length entries = omega (arith, c.loop-depth-test.true, c.len-depth-end.ensures.count) in
    let there = entry_at entries d e within c.entry-entry.ensures in
    refuted_is problem earlier c.args.trail.now.size entries d needed (reverse c.loop-depth.needs.hints.items) c.in_ok-refute-in-Assumed.field-0
    caused.size c.len-depth-end.ensures.ordered
    (all_assumed problem earlier entries d e there caused.stand (ap is_assumed c.in-Assumed.is))
    c.in_ok-refute-in-Assumed.ensures.lits c.in_ok-refute-in-Assumed.ensures.hints
    (c.loop-depth.invariant.refuting problem earlier caused s)

pub returns-in-Decided : goal.returns-in-Decided
returns-in-Decided c = λ problem earlier caused s.
    let entries = c.args.trail.now.entries in
    let needed = c.loop-depth.needs.needed.items in
    let d = c.loop-depth.depth in
    let e = c.entry-entry.result.now in
    let within : d < length entries = omega (arith, c.loop-depth-test.true, c.len-depth-end.ensures.count) in
    let there = entry_at entries d e within c.entry-entry.ensures in
    let here : at needed e.lit.var ≡ true = sym c.has.ensures ∙ c.if-not-has.false in
    let start : IsStart needed entries (d + 1) d = record { above = omega arith; within = within; decision = record { entry = e; there = there; decided = ap is_decided c.in-Decided.is }; quiet = refl } in
    learnt_is problem earlier c.args.trail.now.size entries d d needed e (reverse c.loop-depth.needs.hints.items) c.in_ok-learn-in-Decided.field-0
    caused.size c.len-depth-end.ensures.ordered caused.stand there here start
    c.in_ok-learn-in-Decided.ensures.back c.in_ok-learn-in-Decided.ensures.lits c.in_ok-learn-in-Decided.ensures.hints c.in_ok-learn-in-Decided.ensures.forced
    (c.loop-depth.invariant.refuting problem earlier caused s)

pub returns-in-Alone : goal.returns-in-Alone
returns-in-Alone c = λ problem earlier caused s.
    let entries = c.args.trail.now.entries in
    let needed = c.loop-depth.needs.needed.items in
    let d = c.loop-depth.depth in
    let e = c.entry-entry.result.now in
    let within : d < length entries = omega (arith, c.loop-depth-test.true, c.len-depth-end.ensures.count) in
    let there = entry_at entries d e within c.entry-entry.ensures in
    let here : at needed e.lit.var ≡ true = sym c.has.ensures ∙ c.if-not-has.false in
    let start : IsStart needed entries (d + 1) c.in-Alone.start = subst (λ (r : Rest). IsRest needed entries (d + 1) r) c.in-Alone.is c.rest_of_level.ensures in
    learnt_is problem earlier c.args.trail.now.size entries d c.in-Alone.start needed e (reverse c.loop-depth.needs.hints.items) c.in_ok-learn-in-Alone.field-0
    caused.size c.len-depth-end.ensures.ordered caused.stand there here start
    c.in_ok-learn-in-Alone.ensures.back c.in_ok-learn-in-Alone.ensures.lits c.in_ok-learn-in-Alone.ensures.hints c.in_ok-learn-in-Alone.ensures.forced
    (c.loop-depth.invariant.refuting problem earlier caused s)

pub loop-depth-preserved : goal.loop-depth-preserved
loop-depth-preserved c =
    let entries = c.args.trail.now.entries in
    let size = c.args.trail.now.size in
    let needed = c.loop-depth.needs.needed.items in
    let more = c.add-in-Needed.new.self.needed.items in
    let before = c.loop-depth.needs.hints.items in
    let reason = c.in-Forced.reason in
    let d = c.loop-depth.depth in
    let e = c.entry-entry.result.now in
    let older : List Entry = drop (d + 1) entries in
    let within : d < length entries = omega (arith, c.loop-depth-test.true, c.len-depth-end.ensures.count) in
    let there = entry_at entries d e within c.entry-entry.ensures in
    let next : suc d ≡ d + 1 = omega arith in
    let hints : reverse c.add-in-Needed.new.self.hints.items ≡ reason.hint ∷ reverse before = ap reverse c.in_ok-add-in-Needed.ensures.hints ∙ reverse-append before (reason.hint ∷ []) in
    record {
      size = ap length c.in_ok-add-in-Needed.ensures.needed ∙ (length-marked needed reason.lits ∙ c.loop-depth.invariant.size);
      refuting = λ problem earlier caused s.
          let stands = subst (λ (es : List Entry). AllStand problem earlier es) there (stand-drop problem earlier d entries caused.stand) in
          let forces = subst (λ (k : Cause). Stands problem earlier older e.lit k) c.in-Forced.is stands.0 in
          let refuting = subst (λ (es : List Entry). IsRefuting problem earlier (literals (needed_of needed es)) (literals (take d entries)) (reverse before)) there (c.loop-depth.invariant.refuting problem earlier caused s) in
          subst (λ (hs : List Hint). IsRefuting problem earlier (literals (needed_of more older)) (literals (take (d + 1) entries)) hs) (sym hints)
          (resolving problem earlier e older size needed more (literals (take d entries)) (literals (take (d + 1) entries)) reason.lits reason.hint (reverse before)
          (ordered-drop size (d + 1) entries c.len-depth-end.ensures.ordered)
          c.loop-depth.invariant.size
          c.in_ok-add-in-Needed.ensures.needed
          forces.0 forces.1
          (λ m i. take-later d (d + 1) entries m (omega arith) i)
          (subst (λ n. is_in (literals (take n entries)) e.lit ≡ true) next (take-last d entries e older there))
          (λ m i. subst (λ (es : List Entry). IsUnknown (literals es) m) there (newer_unknown size d entries m c.len-depth-end.ensures.ordered i))
          refuting);
    }

pub returns : goal.returns
returns c = λ problem earlier caused s.
    let entries = c.args.trail.now.entries in
    let needed = c.loop-depth.needs.needed.items in
    let hints = reverse c.loop-depth.needs.hints.items in
    let end = c.len-end.result in
    let same : c.loop-depth.depth ≡ end = omega (arith, c.loop-depth-test.false, c.loop-depth.auto.depth-end, c.len-depth-end.ensures.count, c.len-end.ensures.count) in
    let nothing : drop end entries ≡ [] = drop-all entries end (omega (arith, c.len-end.ensures.count)) in
    refuted_is problem earlier c.args.trail.now.size entries end needed hints c.in_ok-refute.field-0
    caused.size c.len-depth-end.ensures.ordered
    (ap (λ es. list_all (λ f. is_assumed f.cause) es) nothing)
    c.in_ok-refute.ensures.lits c.in_ok-refute.ensures.hints
    (subst (λ n. IsRefuting problem earlier (literals (needed_of needed (drop n entries))) (literals (take n entries)) hints) same (c.loop-depth.invariant.refuting problem earlier caused s))
