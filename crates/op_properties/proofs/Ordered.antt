-- What lists ask for.
use Rattle.std.proofs.Common.{◌≡◌, List, [], ◌∷◌, ◌++◌, map, refl, sym, ap, ◌∙◌, Option, Some, None}
use Rattle.std.specs.List.{filter_map}
use Rattle.std.specs.Option.{option_map}
use Rattle.std.specs.Result.{result_ok}
use Rattle.std.proofs.lemmas.List.{map-append}
use Rattle.std.proofs.lemmas.List.Elements.{filter_map-append}
use Rattle.op_properties.specs.Asked.{each_there, asked, requirement_of}
use Rattle.op_properties.specs.Laws.{PackageIsWritten, AllIsWritten, AnyIsWritten, NotIsWritten, AsksInOrder}
use Rattle.op_properties.specs.declared.requirement.Requirement.TheVariants as requirement
use Rattle.op_properties.proofs.Written.{writes_package, writes_all, writes_any, writes_not}

pub package_written : PackageIsWritten
package_written name text range read = writes_package name text ∙ ap (λ r. option_map (requirement.Package name) (result_ok r)) read

all_there : {T : Type 0} (items : List T) → each_there (map Some items) ≡ Some items
all_there [] = refl
all_there (item ∷ items) = ap (option_map (λ others. item ∷ others)) (all_there items)

pub all_written : AllIsWritten
all_written members written each = writes_all members ∙ ap (λ items. option_map requirement.All (each_there items)) each ∙ ap (option_map requirement.All) (all_there written)

pub any_written : AnyIsWritten
any_written members written each = writes_any members ∙ ap (λ items. option_map requirement.Any (each_there items)) each ∙ ap (option_map requirement.Any) (all_there written)

pub not_written : NotIsWritten
not_written members written each = writes_not members ∙ ap (λ items. option_map requirement.Not (each_there items)) each ∙ ap (option_map requirement.Not) (all_there written)

first_there : {T : Type 0} (item : T) (rest : Option (List T)) (found : List T)
    → option_map (λ others. item ∷ others) rest ≡ Some found → (others : List T) × (rest ≡ Some others) × (item ∷ others ≡ found)
first_there item None found h = absurd (let bad : None ≡ Some found = h in cc)
first_there item (Some others) found h = (others, refl, (let same : Some (item ∷ others) ≡ Some found = h in cc))

-- where all are there, they are the items
there_are : {T : Type 0} (items : List (Option T)) (found : List T) → each_there items ≡ Some found → items ≡ map Some found
there_are [] found h = let e : Some [] ≡ Some found = h in ap (map Some) (let same : [] ≡ found = cc in same)
there_are (None ∷ items) found h = absurd (let bad : None ≡ Some found = h in cc)
there_are (Some item ∷ items) found h =
    let (others, is, same) = first_there item (each_there items) found h in
    ap (λ rest. Some item ∷ rest) (there_are items others is) ∙ ap (map Some) same

pub asks_in_order : AsksInOrder
asks_in_order left right x y first second =
    ap (λ raws. each_there (map requirement_of raws)) (filter_map-append asked left right)
    ∙ ap each_there (map-append requirement_of (filter_map asked left) (filter_map asked right))
    ∙ ap (λ items. each_there (items ++ map requirement_of (filter_map asked right))) (there_are (map requirement_of (filter_map asked left)) x first)
    ∙ ap (λ items. each_there (map Some x ++ items)) (there_are (map requirement_of (filter_map asked right)) y second)
    ∙ ap each_there (sym (map-append Some x y))
    ∙ all_there (x ++ y)
