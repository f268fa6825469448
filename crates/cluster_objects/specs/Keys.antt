-- The order of keys, when two keys are one, and how a key is printed.
use Rattle.std.specs.Prelude.{Bool, List, ◌++◌, ℕ, codes, nat_eq}
use Rattle.std.specs.Cmp.Lexicographic.{slice_cmp, pointwise}
use Rattle.std.specs.Ordering.{nat_cmp, ordering_then, is_eq}
use Rattle.std.specs.declared.cmp.Ordering.{Ordering}
use Rattle.cluster_objects.specs.declared.keys.Key.{Key}

-- texts by their bytes
abbrev pub text_cmp : List ℕ → List ℕ → Ordering
text_cmp a b = slice_cmp nat_cmp a b

-- the same bytes
abbrev pub same_text : List ℕ → List ℕ → Bool
same_text a b = pointwise nat_eq a b

-- by group, kind, namespace and name, each by its bytes
unfoldable pub key_cmp : Key → Key → Ordering
key_cmp a b =
    ordering_then (text_cmp a.group b.group)
    (ordering_then (text_cmp a.kind b.kind) (ordering_then (text_cmp a.namespace b.namespace) (text_cmp a.name b.name)))

-- one key
unfoldable pub same_key : Key → Key → Bool
same_key a b = is_eq (key_cmp a b)

-- group, kind, namespace and name with slashes between them, an empty part as nothing
abbrev pub printed : Key → List ℕ
printed key = key.group ++ codes "/" ++ key.kind ++ codes "/" ++ key.namespace ++ codes "/" ++ key.name
