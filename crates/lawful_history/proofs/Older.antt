-- Histories that go on.
use Rattle.cluster_history.specs.History.{History, Start, After, position, earlier, first_writes}
use Rattle.std.proofs.Common.{◌-◌, zero, suc, ℕ}
use Rattle.cluster_objects.specs.declared.objects.Write.{Write}

pub data IsOlder (h : History) : History → Type 0 where
  now : IsOlder h h
  back : {w : Write} {g : History} → IsOlder h g → IsOlder h (After w g)

pub older_earlier : (n : ℕ) (h : History) → IsOlder (earlier n h) h
older_earlier zero h = now
older_earlier (suc n) (Start base) = now
older_earlier (suc n) (After w h) = back (older_earlier n h)

pub first_older : (a : ℕ) (h : History) → IsOlder (first_writes a h) h
first_older a h = older_earlier (position h - a) h
