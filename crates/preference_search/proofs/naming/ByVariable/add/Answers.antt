use Rattle.std.proofs.Common.{◌≡◌, ◌<◌, ◌++◌, ◌∷◌, [], ℕ, set, length, sym, ap, ◌∙◌, subst, arith}
use Rattle.std.proofs.lemmas.List.{get_or_default}
use Rattle.preference_search.specs.Naming.{list_of, IsListed, IsGrown}
use Rattle.preference_search.proofs.Indexing.{add-listed, add-grown}
use Rattle.preference_search.proofs.naming.ByVariable.add.Goals as goal

pub returns-in_ok-push-clause-listed : goal.returns-in_ok-push-clause-listed
returns-in_ok-push-clause-listed g c =
    let lists = c.self.inside.lists.items in
    let v = c.var.inside.0 in
    let low : v < length lists = omega (arith, c.if-index-len.true, c.len.ensures) in
    let old : c.index_mut.result.now ≡ list_of lists v = c.index_mut.ensures.value ∙ sym (get_or_default lists v [] c.index_mut.result.now low) in
    let P : ℕ → Type 0 = λ u. IsListed (set lists v c.push.new.self) u c.args.item in
    subst P c.var.view_is (add-listed lists v c.args.item c.push.new.self low (c.in_ok-push.ensures.ok ∙ ap (λ xs. xs ++ c.args.item ∷ []) old))

pub returns-in_ok-push-clause-grown : goal.returns-in_ok-push-clause-grown
returns-in_ok-push-clause-grown g c =
    let lists = c.self.inside.lists.items in
    let v = c.var.inside.0 in
    let low : v < length lists = omega (arith, c.if-index-len.true, c.len.ensures) in
    let old : c.index_mut.result.now ≡ list_of lists v = c.index_mut.ensures.value ∙ sym (get_or_default lists v [] c.index_mut.result.now low) in
    subst (λ ls. IsGrown ls (set lists v c.push.new.self)) c.self.view_is (add-grown lists v c.args.item c.push.new.self low (c.in_ok-push.ensures.ok ∙ ap (λ xs. xs ++ c.args.item ∷ []) old))
