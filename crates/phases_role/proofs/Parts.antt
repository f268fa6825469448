-- The parts of the role's writes, and the first of them.
use Rattle.std.proofs.Common.{◌≡◌, ◌&&◌, List, ◌++◌, Option, Some, None, sym, ap, ◌∙◌}
use Rattle.std.specs.List.{filter, filter_map, slice_get}
use Rattle.std.specs.Option.{option_map, option_or}
use Rattle.cluster_objects.specs.declared.statuses.CsvPhase.TheVariants as phase
use Rattle.cluster_history.specs.Views.{View}
use Rattle.csv_phases.specs.Conditions.{group_fits}
use Rattle.csv_phases.specs.Csvs.{Csv, csvs, is_in}
use Rattle.csv_phases.specs.Phases.{claims_write, claims_writes, collection_writes, deployment_write, deployment_writes, is_collected, next_claims, removes}
use Rattle.phases_role.specs.Each.{claim_of, collection_of, deployment_of}
use Rattle.subscription_states.proofs.Firsts.{first_append, first_of_each, map_of_kept, pick_of_kept}

-- ---- each part, CSV by CSV or slot by slot

pub claims_first : (view : View) → slice_get (claims_writes view) 0 ≡ slice_get (filter_map (claim_of view) (csvs view)) 0
claims_first view =
    ap (λ ws. slice_get ws 0)
    (pick_of_kept (λ csv. option_map (claims_write view) (next_claims view csv)) (λ (csv : Csv). is_in phase.Pending csv.status.phase && group_fits view csv) (csvs view))

pub deployments_first : (view : View) → slice_get (deployment_writes view) 0 ≡ slice_get (filter_map (deployment_of view) (csvs view)) 0
deployments_first view =
    let ready = λ (csv : Csv). is_in phase.InstallReady csv.status.phase in
    first_of_each (λ (csv : Csv). filter_map (deployment_write view csv) csv.status.deployments) (filter ready (csvs view))
    ∙ ap (λ ws. slice_get ws 0)
    (pick_of_kept (λ (csv : Csv). slice_get (filter_map (deployment_write view csv) csv.status.deployments) 0) ready (csvs view))

pub collection_first : (view : View) → slice_get (collection_writes view) 0 ≡ slice_get (filter_map (collection_of view) view.slots) 0
collection_first view = ap (λ ws. slice_get ws 0) (map_of_kept (λ entry. removes entry.0 entry.1.version) (is_collected view) view.slots)

-- ---- the first of six lists that stand one behind the other

module _ {X : Type 0} (a b c d e f : List X) where
  abbrev then_c : Option X → Option X
  then_c o = option_or (option_or (option_or (option_or o (slice_get c 0)) (slice_get d 0)) (slice_get e 0)) (slice_get f 0)

  abbrev then_d : Option X → Option X
  then_d o = option_or (option_or (option_or o (slice_get d 0)) (slice_get e 0)) (slice_get f 0)

  abbrev then_e : Option X → Option X
  then_e o = option_or (option_or o (slice_get e 0)) (slice_get f 0)

  abbrev then_f : Option X → Option X
  then_f o = option_or o (slice_get f 0)

  first_is : slice_get (a ++ b ++ c ++ d ++ e ++ f) 0 ≡ then_c (option_or (slice_get a 0) (slice_get b 0))
  first_is =
      first_append (a ++ b ++ c ++ d ++ e) f
      ∙ ap then_f (first_append (a ++ b ++ c ++ d) e)
      ∙ ap then_e (first_append (a ++ b ++ c) d)
      ∙ ap then_d (first_append (a ++ b) c)
      ∙ ap then_c (first_append a b)

  pub first_a : (x : X) → Some x ≡ slice_get a 0 → Some x ≡ slice_get (a ++ b ++ c ++ d ++ e ++ f) 0
  first_a x h = ap (λ o. then_c (option_or o (slice_get b 0))) h ∙ sym first_is

  module _ (no_a : None ≡ slice_get a 0) where
    after_a : then_c (slice_get b 0) ≡ slice_get (a ++ b ++ c ++ d ++ e ++ f) 0
    after_a = ap (λ o. then_c (option_or o (slice_get b 0))) no_a ∙ sym first_is

    pub first_b : (x : X) → Some x ≡ slice_get b 0 → Some x ≡ slice_get (a ++ b ++ c ++ d ++ e ++ f) 0
    first_b x h = ap then_c h ∙ after_a

    module _ (no_b : None ≡ slice_get b 0) where
      after_b : then_d (slice_get c 0) ≡ slice_get (a ++ b ++ c ++ d ++ e ++ f) 0
      after_b = ap then_c no_b ∙ after_a

      pub first_c : (x : X) → Some x ≡ slice_get c 0 → Some x ≡ slice_get (a ++ b ++ c ++ d ++ e ++ f) 0
      first_c x h = ap then_d h ∙ after_b

      module _ (no_c : None ≡ slice_get c 0) where
        after_c : then_e (slice_get d 0) ≡ slice_get (a ++ b ++ c ++ d ++ e ++ f) 0
        after_c = ap then_d no_c ∙ after_b

        pub first_d : (x : X) → Some x ≡ slice_get d 0 → Some x ≡ slice_get (a ++ b ++ c ++ d ++ e ++ f) 0
        first_d x h = ap then_e h ∙ after_c

        module _ (no_d : None ≡ slice_get d 0) where
          after_d : then_f (slice_get e 0) ≡ slice_get (a ++ b ++ c ++ d ++ e ++ f) 0
          after_d = ap then_e no_d ∙ after_c

          pub first_e : (x : X) → Some x ≡ slice_get e 0 → Some x ≡ slice_get (a ++ b ++ c ++ d ++ e ++ f) 0
          first_e x h = ap then_f h ∙ after_d

          pub first_f : None ≡ slice_get e 0 → (o : Option X) → o ≡ slice_get f 0 → o ≡ slice_get (a ++ b ++ c ++ d ++ e ++ f) 0
          first_f no_e o h = h ∙ ap then_f no_e ∙ after_d
