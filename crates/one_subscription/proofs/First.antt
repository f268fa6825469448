-- Each of the two writes is the first of its key.
use Rattle.std.specs.Prelude.{◌≡◌, refl, ℕ, List, []}
use Rattle.std.proofs.Common.{subst, sym}
use Rattle.cluster_objects.specs.Keys.{key_cmp}
use Rattle.cluster_history.specs.History.{After, Start, after_all, empty, slot, state}
use Rattle.cluster_objects.specs.declared.objects.Write.{Write}
use Rattle.object_store.specs.Puts.{Agrees}
use Rattle.one_subscription.specs.Asked.{catalog_write, subscription_write}

nothing_is_written : (body : List ℕ) → Agrees (Start empty) (catalog_write body)
unfolding slot state
nothing_is_written body = refl

pub catalog_is_first :
    (store : ℕ × List Write) (limit : ℕ) (write : Write) (body : List ℕ) → store ≡ (limit, []) → write ≡ catalog_write body
    → Agrees (after_all (Start empty) store.1) write
catalog_is_first store limit write body held made =
    subst (λ there. Agrees (after_all (Start empty) there.1) write) (sym held)
    (subst (Agrees (Start empty)) (sym made) (nothing_is_written body))

pub subscription_is_first :
    (body owner channel : List ℕ) → Agrees (After (catalog_write body) (Start empty)) (subscription_write owner channel)
unfolding slot state key_cmp
subscription_is_first body owner channel = refl
