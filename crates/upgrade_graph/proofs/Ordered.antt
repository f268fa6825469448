-- What holds of all entries of a channel holds of them in channel order.
use Rattle.std.proofs.Common.{◌≡◌, ℕ, zero, suc, Bool, not, List, [], length, Option, Some, None, refl}
use Rattle.std.specs.List.{All, find}
use Rattle.std.specs.Option.{option_and_then, option_map_or}
use Rattle.std.proofs.lemmas.List.Elements.{All-append, All-cons, All-nil, All-filter}
use Rattle.std.proofs.lemmas.List.Sorted.{All-permutation}
use Rattle.fbc_types.specs.Channels.{chain, chain_from, entry_named, has_name, is_head, replaced_by}
use Rattle.fbc_types.specs.Texts.{same}
use Rattle.fbc_types.specs.declared.catalog.Bundle.{Bundle}
use Rattle.fbc_types.specs.declared.catalog.Channel.{Channel}
use Rattle.fbc_types.specs.declared.catalog.Entry.{Entry}
use Rattle.upgrade_graph.specs.Order.{in_order, is_before, main_chain, off_chain}
use Rattle.upgrade_graph.specs.Sorting.{sorted}
use Rattle.upgrade_graph.proofs.Checked.{found_has}
use Rattle.upgrade_graph.proofs.Sorts.{sorted_permutes}

module _ (P : Entry → Type 0) (entries : List Entry) (all : All P entries) where
  IfThere : Option Entry → Type 0
  IfThere None = Unit {0}
  IfThere (Some entry) = P entry

  found_there : (test : Entry → Bool) (found : Option Entry) → find test entries ≡ found → IfThere found
  unfolding IfThere
  found_there test None h = tt
  found_there test (Some entry) h = found_has test P entries entry all h

  replaced_there : (name : Option (List ℕ)) → IfThere (option_and_then (entry_named entries) name)
  unfolding IfThere
  replaced_there None = tt
  replaced_there (Some name) = found_there (λ (entry : Entry). same entry.name name) (entry_named entries name) refl

  chain_all : (steps : ℕ) (at : Option Entry) → IfThere at → All P (chain_from steps entries at)
  unfolding IfThere
  chain_all zero at h = All-nil P
  chain_all (suc steps) None h = All-nil P
  chain_all (suc steps) (Some entry) h = All-cons P entry _ h (chain_all steps (replaced_by entries entry) (replaced_there entry.replaces))

  from_head : (head : Option Entry) → IfThere head → All P (option_map_or (chain entries) head [])
  unfolding IfThere chain
  from_head None h = All-nil P
  from_head (Some entry) h = chain_all (suc (length entries)) (Some entry) h

  pub main_chain_all : All P (main_chain entries)
  unfolding main_chain
  main_chain_all = from_head (find (is_head entries) entries) (found_there (is_head entries) (find (is_head entries) entries) refl)

pub in_order_all : (P : Entry → Type 0) (bundles : List Bundle) (channel : Channel) → All P channel.entries → All P (in_order bundles channel)
unfolding in_order
in_order_all P bundles channel all =
    let others = All-filter (λ entry. not (has_name entry.name (main_chain channel.entries))) P channel.entries all in
    All-append P (main_chain channel.entries) (sorted (is_before bundles channel.«package») (off_chain channel.entries)) (main_chain_all P channel.entries all)
    (All-permutation P (off_chain channel.entries) _ (sorted_permutes (is_before bundles channel.«package») (off_chain channel.entries)) others)
