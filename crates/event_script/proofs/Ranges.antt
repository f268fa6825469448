-- Events that are read are in their ranges.
use Rattle.std.proofs.Common.{Bool, true, false, ◌≡◌, ◌≤◌, ◌+◌, ◌&&◌, ℕ, nat_le, List, [], ◌∷◌, All, Option, Some, None, Result, Ok, Err, codes, length, if◌then◌else◌, option_and_then, refl, sym, ap, subst, arith}
use Rattle.std.specs.List.{AllByRecursion}
use Rattle.std.proofs.lemmas.Bool.{leb-true}
use Rattle.std.proofs.lemmas.List.Elements.{All-from_recursion}
use Rattle.serde_json.specs.Data.{Data, null, boolean, number, string, array, object}
use Rattle.serde_json.specs.Find.{get_member, as_u64}
use Rattle.catalog_stream.specs.Stream.{BlobView, blobs}
use Rattle.catalog_stream.specs.declared.blobs.StreamFault.{StreamFault}
use Rattle.cluster_objects.specs.Keys.{same_text}
use Rattle.cluster_objects.specs.declared.objects.Writer.{Writer}
use Rattle.cluster_objects.specs.declared.objects.Writer.TheVariants.{Resolver, Installer, Phases}
use Rattle.cluster_objects.specs.declared.statuses.Readiness.{Readiness}
use Rattle.cluster_objects.specs.declared.statuses.Readiness.TheVariants.{Ready, Failed}
use Rattle.olm_base.specs.Names.{is_outside_name, is_group}
use Rattle.olm_base.specs.Fields.{field, as_text, as_name, not_empty}
use Rattle.olm_base.specs.declared.fields.FieldKind.{FieldKind}
use Rattle.olm_base.specs.declared.fields.FieldKind.TheVariants.{BadName}
use Rattle.json_fields.specs.declared.fault.Fault.{Fault}
use Rattle.json_fields.specs.Faults.{and_then, here, below, key_step}
use Rattle.json_fields.specs.Values.{at, as_group, name_at, text_at, group_at}
use Rattle.event_script.specs.declared.events.Event.{Event}
use Rattle.event_script.specs.declared.events.Event.TheVariants as event
use Rattle.event_script.specs.declared.events.Word.{Word}
use Rattle.event_script.specs.declared.events.Word.TheVariants as word
use Rattle.event_script.specs.declared.reading.EventFault.{EventFault}
use Rattle.event_script.specs.declared.reading.EventFault.TheVariants.{NoEvent, UnknownEvent}
use Rattle.event_script.specs.Numbers.{within, or_number, some_number, as_count, as_opt_count, opt_signed_at, opt_count_at, count_at}
use Rattle.event_script.specs.Events.{delete_event, approve_event, catalog_event, ready_event, retry_event, worker_event, look_event, act_event, settle_event, release_event, lease_event, as_state, state_at, as_role, role_at, worker_at, least_budget, greatest_budget, greatest_worker, least_turns, greatest_turns, greatest_now, least_keep, greatest_keep, event_word, has_kind}
use Rattle.event_script.specs.Ranges.{IsName, IsGroup, IsReport, IsRole, IsWithin, IsGivenWithin, IsWorker, IsInRange}
use Rattle.event_script.specs.Running.{runs_now, word_for, MayRun, RunsNow}
use Rattle.event_script.specs.Script.{numbered, named_event, by_word, event_of, bytes_of, events_from, unless_broken, events_of}

pub inner : {T E : Type 0} (value found : T) → ◌≡◌ {A = Result T E} (Ok value) (Ok found) → value ≡ found
inner value found e = cc e

pub inner_fault : {T E : Type 0} (fault found : E) → ◌≡◌ {A = Result T E} (Err fault) (Err found) → fault ≡ found
inner_fault fault found e = cc e

-- what each of some readings gave, where all of them gave something
one : {A U E : Type 0} (a : Result A E) (made : A → U) (found : U) → and_then a (λ x. Ok (made x)) ≡ Ok found → (x : A) × (a ≡ Ok x) × (made x ≡ found)
one (Ok x) made found e = (x, refl, inner (made x) found e)
one (Err fault) made found e = cc e

pub two : {A B U E : Type 0} (a : Result A E) (b : Result B E) (made : A → B → U) (found : U) → and_then a (λ x. and_then b (λ y. Ok (made x y))) ≡ Ok found
    → (x : A) × (y : B) × (a ≡ Ok x) × (b ≡ Ok y) × (made x y ≡ found)
two (Ok x) (Ok y) made found e = (x, y, refl, refl, inner (made x y) found e)
two (Ok x) (Err fault) made found e = cc e
two (Err fault) b made found e = cc e

three : {A B C U E : Type 0} (a : Result A E) (b : Result B E) (c : Result C E) (made : A → B → C → U) (found : U) → and_then a (λ x. and_then b (λ y. and_then c (λ z. Ok (made x y z)))) ≡ Ok found
    → (x : A) × (y : B) × (z : C) × (a ≡ Ok x) × (b ≡ Ok y) × (c ≡ Ok z) × (made x y z ≡ found)
three (Ok x) (Ok y) (Ok z) made found e = (x, y, z, refl, refl, refl, inner (made x y z) found e)
three (Ok x) (Ok y) (Err fault) made found e = cc e
three (Ok x) (Err fault) c made found e = cc e
three (Err fault) b c made found e = cc e

four : {A B C D U E : Type 0} (a : Result A E) (b : Result B E) (c : Result C E) (d : Result D E) (made : A → B → C → D → U) (found : U)
    → and_then a (λ x. and_then b (λ y. and_then c (λ z. and_then d (λ w. Ok (made x y z w))))) ≡ Ok found
    → (x : A) × (y : B) × (z : C) × (w : D) × (a ≡ Ok x) × (b ≡ Ok y) × (c ≡ Ok z) × (d ≡ Ok w) × (made x y z w ≡ found)
four (Ok x) (Ok y) (Ok z) (Ok w) made found e = (x, y, z, w, refl, refl, refl, refl, inner (made x y z w) found e)
four (Ok x) (Ok y) (Ok z) (Err fault) made found e = cc e
four (Ok x) (Ok y) (Err fault) d made found e = cc e
four (Ok x) (Err fault) c d made found e = cc e
four (Err fault) b c d made found e = cc e

-- ---- forms of fields

here_ok : {T : Type 0} (step : List ℕ) (read : Result T FieldKind) (found : T) → below step (here read) ≡ Ok found → read ≡ Ok found
here_ok step (Ok value) found e = ap Ok (inner value found e)
here_ok step (Err kind) found e = cc e

field_holds : {T : Type 0} (read : Option Data → Result T FieldKind) (P : T → Type 0) → ((there : Option Data) (found : T) → read there ≡ Ok found → P found)
    → (value : Data) (key : List ℕ) (found : T) → field read value key ≡ Ok found → P found
field_holds read P h null key found e = cc e
field_holds read P h (boolean b) key found e = cc e
field_holds read P h (number n) key found e = cc e
field_holds read P h (string s) key found e = cc e
field_holds read P h (array ds) key found e = cc e
field_holds read P h (object ms) key found e = h (get_member key ms) found e

at_holds : {T : Type 0} (read : Option Data → Result T FieldKind) (P : T → Type 0) → ((there : Option Data) (found : T) → read there ≡ Ok found → P found)
    → (key : List ℕ) (value : Data) (found : T) → at read key value ≡ Ok found → P found
at_holds read P h key value found e = field_holds read P h value key found (here_ok (key_step key) (field read value key) found e)

passed : (test : Bool) (text found : List ℕ) → (if test then Ok text else Err BadName) ≡ Ok found → (test ≡ true) × (text ≡ found)
passed true text found e = (refl, cc e)
passed false text found e = cc e

name_holds : (there : Option Data) (found : List ℕ) → as_name there ≡ Ok found → IsName found
name_holds None found e = cc e
name_holds (Some null) found e = cc e
name_holds (Some (boolean b)) found e = cc e
name_holds (Some (number n)) found e = cc e
name_holds (Some (string s)) found e = let p = passed (is_outside_name s) s found e in subst (λ (text : List ℕ). IsName text) p.1 p.0
name_holds (Some (array ds)) found e = cc e
name_holds (Some (object ms)) found e = cc e

group_holds : (there : Option Data) (found : List ℕ) → as_group there ≡ Ok found → IsGroup found
group_holds None found e = cc e
group_holds (Some null) found e = cc e
group_holds (Some (boolean b)) found e = cc e
group_holds (Some (number n)) found e = cc e
group_holds (Some (string s)) found e = let p = passed (is_group s) s found e in subst (λ (text : List ℕ). IsGroup text) p.1 p.0
group_holds (Some (array ds)) found e = cc e
group_holds (Some (object ms)) found e = cc e

full : (text found : List ℕ) → not_empty text ≡ Ok found → 1 ≤ length found
full [] found e = cc e
full (byte ∷ bytes) found e =
    let same : byte ∷ bytes ≡ found = cc e in
    subst (λ (text : List ℕ). 1 ≤ length text) same (omega arith)

text_holds : (there : Option Data) (found : List ℕ) → as_text there ≡ Ok found → 1 ≤ length found
text_holds None found e = cc e
text_holds (Some null) found e = cc e
text_holds (Some (boolean b)) found e = cc e
text_holds (Some (number n)) found e = cc e
text_holds (Some (string s)) found e = full s found e
text_holds (Some (array ds)) found e = cc e
text_holds (Some (object ms)) found e = cc e

report : (is_ready is_failed : Bool) (found : Readiness) → (if is_ready then Ok Ready else (if is_failed then Ok Failed else Err BadName)) ≡ Ok found → IsReport found
report true is_failed found e = subst (λ (state : Readiness). IsReport state) (let same : Ready ≡ found = cc e in same) tt
report false true found e = subst (λ (state : Readiness). IsReport state) (let same : Failed ≡ found = cc e in same) tt
report false false found e = cc e

state_holds : (there : Option Data) (found : Readiness) → as_state there ≡ Ok found → IsReport found
state_holds None found e = cc e
state_holds (Some null) found e = cc e
state_holds (Some (boolean b)) found e = cc e
state_holds (Some (number n)) found e = cc e
state_holds (Some (string s)) found e = report (same_text s (codes "ready")) (same_text s (codes "failed")) found e
state_holds (Some (array ds)) found e = cc e
state_holds (Some (object ms)) found e = cc e

role : (is_resolver is_installer is_phases : Bool) (found : Writer) → (if is_resolver then Ok Resolver else (if is_installer then Ok Installer else (if is_phases then Ok Phases else Err BadName))) ≡ Ok found → IsRole found
role true is_installer is_phases found e = subst (λ (role : Writer). IsRole role) (let same : Resolver ≡ found = cc e in same) tt
role false true is_phases found e = subst (λ (role : Writer). IsRole role) (let same : Installer ≡ found = cc e in same) tt
role false false true found e = subst (λ (role : Writer). IsRole role) (let same : Phases ≡ found = cc e in same) tt
role false false false found e = cc e

role_holds : (there : Option Data) (found : Writer) → as_role there ≡ Ok found → IsRole found
role_holds None found e = cc e
role_holds (Some null) found e = cc e
role_holds (Some (boolean b)) found e = cc e
role_holds (Some (number n)) found e = cc e
role_holds (Some (string s)) found e = role (same_text s (codes "resolver")) (same_text s (codes "installer")) (same_text s (codes "phases")) found e
role_holds (Some (array ds)) found e = cc e
role_holds (Some (object ms)) found e = cc e

in_between : (low high : Bool) (least greatest n found : ℕ) → (low ≡ true → least ≤ n) → (high ≡ true → n ≤ greatest)
    → or_number (if low && high then Some n else None) ≡ Ok found → IsWithin least greatest found
in_between true true least greatest n found l h e =
    let same : n ≡ found = cc e in
    subst (λ (m : ℕ). IsWithin least greatest m) same (l refl, h refl)
in_between true false least greatest n found l h e = cc e
in_between false high least greatest n found l h e = cc e

counted : (least greatest : ℕ) (n : Option ℕ) (found : ℕ) → or_number (option_and_then (within least greatest) n) ≡ Ok found → IsWithin least greatest found
counted least greatest None found e = cc e
counted least greatest (Some n) found e = in_between (nat_le least n) (nat_le n greatest) least greatest n found (leb-true least n) (leb-true n greatest) e

count_holds : (least greatest : ℕ) (there : Option Data) (found : ℕ) → as_count least greatest there ≡ Ok found → IsWithin least greatest found
count_holds least greatest None found e = cc e
count_holds least greatest (Some null) found e = cc e
count_holds least greatest (Some (boolean b)) found e = cc e
count_holds least greatest (Some (number n)) found e = counted least greatest (as_u64 n) found e
count_holds least greatest (Some (string s)) found e = cc e
count_holds least greatest (Some (array ds)) found e = cc e
count_holds least greatest (Some (object ms)) found e = cc e

given : (least greatest : ℕ) (read : Result ℕ FieldKind) (found : Option ℕ) → ((n : ℕ) → read ≡ Ok n → IsWithin least greatest n) → some_number read ≡ Ok found → IsGivenWithin least greatest found
given least greatest (Ok n) found h e =
    let same : Some n ≡ found = cc e in
    subst (λ (number : Option ℕ). IsGivenWithin least greatest number) same (h n refl)
given least greatest (Err kind) found h e = cc e

not_given : (least greatest : ℕ) (found : Option ℕ) → ◌≡◌ {A = Result (Option ℕ) FieldKind} (Ok None) (Ok found) → IsGivenWithin least greatest found
not_given least greatest found e =
    let same : None ≡ found = cc e in
    subst (λ (number : Option ℕ). IsGivenWithin least greatest number) same tt

opt_count_holds : (least greatest : ℕ) (there : Option Data) (found : Option ℕ) → as_opt_count least greatest there ≡ Ok found → IsGivenWithin least greatest found
opt_count_holds least greatest None found e = not_given least greatest found e
opt_count_holds least greatest (Some null) found e = not_given least greatest found e
opt_count_holds least greatest (Some (boolean b)) found e = cc e
opt_count_holds least greatest (Some (number n)) found e = given least greatest (or_number (option_and_then (within least greatest) (as_u64 n))) found (counted least greatest (as_u64 n)) e
opt_count_holds least greatest (Some (string s)) found e = cc e
opt_count_holds least greatest (Some (array ds)) found e = cc e
opt_count_holds least greatest (Some (object ms)) found e = cc e

-- ---- events

name_in : (key : List ℕ) (blob : Data) (found : List ℕ) → name_at key blob ≡ Ok found → IsName found
name_in key blob found e = at_holds as_name (λ (text : List ℕ). IsName text) name_holds key blob found e

group_in : (key : List ℕ) (blob : Data) (found : List ℕ) → group_at key blob ≡ Ok found → IsGroup found
group_in key blob found e = at_holds as_group (λ (text : List ℕ). IsGroup text) group_holds key blob found e

role_in : (key : List ℕ) (blob : Data) (found : Writer) → role_at key blob ≡ Ok found → IsRole found
role_in key blob found e = at_holds as_role (λ (role : Writer). IsRole role) role_holds key blob found e

count_in : (least greatest : ℕ) (key : List ℕ) (blob : Data) (found : ℕ) → count_at least greatest key blob ≡ Ok found → IsWithin least greatest found
count_in least greatest key blob found e = at_holds (as_count least greatest) (λ (n : ℕ). IsWithin least greatest n) (count_holds least greatest) key blob found e

opt_count_in : (least greatest : ℕ) (key : List ℕ) (blob : Data) (found : Option ℕ) → opt_count_at least greatest key blob ≡ Ok found → IsGivenWithin least greatest found
opt_count_in least greatest key blob found e = at_holds (as_opt_count least greatest) (λ (n : Option ℕ). IsGivenWithin least greatest n) (opt_count_holds least greatest) key blob found e

worker_in : (blob : Data) (found : ℕ) → worker_at blob ≡ Ok found → IsWorker found
worker_in blob found e = count_in 0 greatest_worker (codes "worker") blob found e

-- an event in its ranges, that this word names
abbrev IsOf : Word → Event → Type 0
IsOf named found = IsInRange found × (word_for found ≡ Some named)

delete_of : (blob : Data) (found : Event) → delete_event blob ≡ Ok found → IsOf word.Delete found
delete_of blob found e =
    let p = four (group_at (codes "group") blob) (name_at (codes "kind") blob) (group_at (codes "namespace") blob) (name_at (codes "name") blob) event.Delete found e in
    let h : IsInRange (event.Delete p.0 p.1 p.2 p.3) = (group_in (codes "group") blob p.0 p.4, name_in (codes "kind") blob p.1 p.5, group_in (codes "namespace") blob p.2 p.6, name_in (codes "name") blob p.3 p.7) in
    subst (λ (found : Event). IsOf word.Delete found) p.8 (h, refl)

approve_of : (blob : Data) (found : Event) → approve_event blob ≡ Ok found → IsOf word.Approve found
approve_of blob found e =
    let p = two (name_at (codes "namespace") blob) (name_at (codes "name") blob) event.Approve found e in
    let h : IsInRange (event.Approve p.0 p.1) = (name_in (codes "namespace") blob p.0 p.2, name_in (codes "name") blob p.1 p.3) in
    subst (λ (found : Event). IsOf word.Approve found) p.4 (h, refl)

catalog_of : (blob : Data) (found : Event) → catalog_event blob ≡ Ok found → IsOf word.Catalog found
catalog_of blob found e =
    let p = four (name_at (codes "namespace") blob) (name_at (codes "name") blob) (text_at (codes "path") blob) (opt_signed_at (codes "priority") blob) event.Catalog found e in
    let path : 1 ≤ length p.2 = at_holds as_text (λ (text : List ℕ). 1 ≤ length text) text_holds (codes "path") blob p.2 p.6 in
    let h : IsInRange (event.Catalog p.0 p.1 p.2 p.3) = (name_in (codes "namespace") blob p.0 p.4, name_in (codes "name") blob p.1 p.5, path) in
    subst (λ (found : Event). IsOf word.Catalog found) p.8 (h, refl)

ready_of : (blob : Data) (found : Event) → ready_event blob ≡ Ok found → IsOf word.Ready found
ready_of blob found e =
    let p = three (name_at (codes "namespace") blob) (name_at (codes "name") blob) (state_at (codes "state") blob) event.Ready found e in
    let state : IsReport p.2 = at_holds as_state (λ (state : Readiness). IsReport state) state_holds (codes "state") blob p.2 p.5 in
    let h : IsInRange (event.Ready p.0 p.1 p.2) = (name_in (codes "namespace") blob p.0 p.3, name_in (codes "name") blob p.1 p.4, state) in
    subst (λ (found : Event). IsOf word.Ready found) p.6 (h, refl)

retry_of : (blob : Data) (found : Event) → retry_event blob ≡ Ok found → IsOf word.Retry found
retry_of blob found e =
    let p = two (name_at (codes "namespace") blob) (opt_count_at least_budget greatest_budget (codes "budget") blob) event.Retry found e in
    let h : IsInRange (event.Retry p.0 p.1) = (name_in (codes "namespace") blob p.0 p.2, opt_count_in least_budget greatest_budget (codes "budget") blob p.1 p.3) in
    subst (λ (found : Event). IsOf word.Retry found) p.4 (h, refl)

worker_of : (blob : Data) (found : Event) → worker_event blob ≡ Ok found → IsOf word.Worker found
worker_of blob found e =
    let p = two (role_at (codes "role") blob) (name_at (codes "namespace") blob) event.Worker found e in
    let h : IsInRange (event.Worker p.0 p.1) = (role_in (codes "role") blob p.0 p.2, name_in (codes "namespace") blob p.1 p.3) in
    subst (λ (found : Event). IsOf word.Worker found) p.4 (h, refl)

look_of : (blob : Data) (found : Event) → look_event blob ≡ Ok found → IsOf word.Look found
look_of blob found e =
    let p = one (worker_at blob) event.Look found e in
    let h : IsInRange (event.Look p.0) = worker_in blob p.0 p.1 in
    subst (λ (found : Event). IsOf word.Look found) p.2 (h, refl)

act_of : (blob : Data) (found : Event) → act_event blob ≡ Ok found → IsOf word.Act found
act_of blob found e =
    let p = one (worker_at blob) event.Act found e in
    let h : IsInRange (event.Act p.0) = worker_in blob p.0 p.1 in
    subst (λ (found : Event). IsOf word.Act found) p.2 (h, refl)

settle_of : (blob : Data) (found : Event) → settle_event blob ≡ Ok found → IsOf word.Settle found
settle_of blob found e =
    let p = two (name_at (codes "namespace") blob) (opt_count_at least_turns greatest_turns (codes "turns") blob) event.Settle found e in
    let h : IsInRange (event.Settle p.0 p.1) = (name_in (codes "namespace") blob p.0 p.2, opt_count_in least_turns greatest_turns (codes "turns") blob p.1 p.3) in
    subst (λ (found : Event). IsOf word.Settle found) p.4 (h, refl)

release_of : (blob : Data) (found : Event) → release_event blob ≡ Ok found → IsOf word.Release found
release_of blob found e =
    let p = one (name_at (codes "namespace") blob) event.Release found e in
    let h : IsInRange (event.Release p.0) = name_in (codes "namespace") blob p.0 p.1 in
    subst (λ (found : Event). IsOf word.Release found) p.2 (h, refl)

lease_of : (blob : Data) (found : Event) → lease_event blob ≡ Ok found → IsOf word.Lease found
lease_of blob found e =
    let p = three (worker_at blob) (count_at 0 greatest_now (codes "now") blob) (count_at least_keep greatest_keep (codes "keep") blob) event.Lease found e in
    let h : IsInRange (event.Lease p.0 p.1 p.2) = (worker_in blob p.0 p.3, count_in 0 greatest_now (codes "now") blob p.1 p.4, count_in least_keep greatest_keep (codes "keep") blob p.2 p.5) in
    subst (λ (found : Event). IsOf word.Lease found) p.6 (h, refl)

unnumbered : (place : ℕ) (read : Result Event Fault) (found : Event) → numbered place read ≡ Ok found → read ≡ Ok found
unnumbered place (Ok one) found e = ap Ok (inner one found e)
unnumbered place (Err fault) found e = cc e

named_of : (place : ℕ) (named : Word) (blob : Data) (found : Event) → named_event place named blob ≡ Ok found → IsOf named found
named_of place word.Delete blob found e = delete_of blob found (unnumbered place (delete_event blob) found e)
named_of place word.Approve blob found e = approve_of blob found (unnumbered place (approve_event blob) found e)
named_of place word.Catalog blob found e = catalog_of blob found (unnumbered place (catalog_event blob) found e)
named_of place word.Ready blob found e = ready_of blob found (unnumbered place (ready_event blob) found e)
named_of place word.Retry blob found e = retry_of blob found (unnumbered place (retry_event blob) found e)
named_of place word.Worker blob found e = worker_of blob found (unnumbered place (worker_event blob) found e)
named_of place word.Look blob found e = look_of blob found (unnumbered place (look_event blob) found e)
named_of place word.Act blob found e = act_of blob found (unnumbered place (act_event blob) found e)
named_of place word.Settle blob found e = settle_of blob found (unnumbered place (settle_event blob) found e)
named_of place word.Restart blob found e =
    let same : event.Restart ≡ found = cc e in
    subst (λ (found : Event). IsOf word.Restart found) same (tt, refl)
named_of place word.Release blob found e = release_of blob found (unnumbered place (release_event blob) found e)
named_of place word.Lease blob found e = lease_of blob found (unnumbered place (lease_event blob) found e)
named_of place word.Other blob found e = cc e

-- an event in its ranges, that a run applies
abbrev IsRead : Event → Type 0
IsRead found = IsInRange found × RunsNow found

run_in : (runs : Bool) (place : ℕ) (named : Word) (blob : Data) (found : Event) → runs_now named ≡ runs → (if runs then named_event place named blob else Err (UnknownEvent place)) ≡ Ok found → IsRead found
run_in true place named blob found r e =
    let p = named_of place named blob found e in
    (p.0, subst (λ (named : Option Word). MayRun named) (sym p.1) r)
run_in false place named blob found r e = cc e

unnamed_in : (kind : Bool) (place : ℕ) (bytes : List ℕ) (found : Event) → (if kind then Ok (event.Apply bytes) else Err (NoEvent place)) ≡ Ok found → IsRead found
unnamed_in true place bytes found e =
    let same : event.Apply bytes ≡ found = cc e in
    subst (λ (found : Event). IsRead found) same (tt, tt)
unnamed_in false place bytes found e = cc e

word_in : (named : Option Word) (place : ℕ) (blob : Data) (bytes : List ℕ) (found : Event) → by_word place blob bytes named ≡ Ok found → IsRead found
word_in None place blob bytes found e = unnamed_in (has_kind blob) place bytes found e
word_in (Some named) place blob bytes found e = run_in (runs_now named) place named blob found refl e

event_in : (place : ℕ) (blob : Data) (bytes : List ℕ) (found : Event) → event_of place blob bytes ≡ Ok found → IsRead found
event_in place blob bytes found e = word_in (event_word blob) place blob bytes found e

-- what the first blob and the others gave
pub one_and_more : (first : ℕ) (text : List ℕ) (blob : BlobView) (left : List BlobView) (events : List Event) → events_from first text (blob ∷ left) ≡ Ok events
    → (head : Event) × (more : List Event) × (event_of first blob.value (bytes_of text blob) ≡ Ok head) × (events_from (first + 1) text left ≡ Ok more) × (head ∷ more ≡ events)
one_and_more first text blob left events e = two (event_of first blob.value (bytes_of text blob)) (events_from (first + 1) text left) (λ head more. head ∷ more) events e

-- what each event has that is read
list_in : (P : Event → Type 0) → ((found : Event) → IsRead found → P found) → (first : ℕ) (text : List ℕ) (left : List BlobView) (events : List Event) → events_from first text left ≡ Ok events
    → AllByRecursion P events
list_in P each first text [] events e =
    let same : [] ≡ events = cc e in
    subst (λ (events : List Event). AllByRecursion P events) same tt
list_in P each first text (blob ∷ left) events e =
    let p = one_and_more first text blob left events e in
    let h : AllByRecursion P (p.0 ∷ p.1) = (each p.0 (event_in first blob.value (bytes_of text blob) p.0 p.2), list_in P each (first + 1) text left p.1 p.3) in
    subst (λ (events : List Event). AllByRecursion P events) p.4 h

pub whole_stream : (read : Result (List Event) EventFault) (end : Option StreamFault) (events : List Event) → and_then read (λ found. unless_broken found end) ≡ Ok events → (read ≡ Ok events) × (end ≡ None)
whole_stream (Ok found) None events e = (e, refl)
whole_stream (Ok found) (Some fault) events e = cc e
whole_stream (Err fault) end events e = cc e

all_in : (P : Event → Type 0) → ((found : Event) → IsRead found → P found) → (text : List ℕ) (events : List Event) → events_of text ≡ Ok events → All P events
all_in P each text events e =
    let read = whole_stream (events_from 0 text (blobs text).blobs) (blobs text).fault events e in
    All-from_recursion P events (list_in P each 0 text (blobs text).blobs events read.0)

pub events_in : (text : List ℕ) (events : List Event) → events_of text ≡ Ok events → All IsInRange events
events_in text events e = all_in IsInRange (λ found is. is.0) text events e

pub events_run : (text : List ℕ) (events : List Event) → events_of text ≡ Ok events → All RunsNow events
events_run text events e = all_in RunsNow (λ found is. is.1) text events e
