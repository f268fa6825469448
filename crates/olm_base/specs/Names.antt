-- What is a name, and what is a group.
use Rattle.std.specs.Prelude.{ℕ, List, Bool, ◌&&◌, ◌==◌, not, nat_le, length}
use Rattle.std.specs.List.{list_all}

-- a printing byte that is no blank and none of `/`, `"` and `\`
abbrev pub is_name_byte : ℕ → Bool
is_name_byte b = nat_le 0x21 b && nat_le b 0x7e && not (b == 47) && not (b == 34) && not (b == 92)

-- 1 to 1,100 such bytes
abbrev pub is_name : List ℕ → Bool
is_name text = nat_le 1 (length text) && nat_le (length text) 1100 && list_all is_name_byte text

-- what a name may be that is read from outside: at most 253 bytes
abbrev pub is_outside_name : List ℕ → Bool
is_outside_name text = nat_le (length text) 253 && is_name text

-- 0 to 253 such bytes
abbrev pub is_group : List ℕ → Bool
is_group text = nat_le (length text) 253 && list_all is_name_byte text
