-- A store holds a history, whatever it answers.
use Rattle.std.proofs.Common.{◌≡◌, Bool, inl, inr, sym, subst}
use Rattle.cluster_history.specs.History.{History, After, IsHistory}
use Rattle.cluster_objects.specs.declared.objects.Write.{Write}
use Rattle.object_store.specs.declared.cluster.PutAnswer.{PutAnswer}
use Rattle.object_store.specs.declared.cluster.PutAnswer.TheVariants as put
use Rattle.object_store.specs.Puts.{Puts, Agrees}

made : (h : History) (w : Write) (new : History) → IsHistory h → Agrees h w → new ≡ After w h → IsHistory new
made h w new is agrees more = subst IsHistory (sym more) (agrees, is)

stays : (h new : History) → IsHistory h → new ≡ h → IsHistory new
stays h new is same = subst IsHistory (sym same) is

pub history_kept : (room : Bool) (h : History) (w : Write) (new : History) (answer : PutAnswer) → IsHistory h → Puts room h w new answer → IsHistory new
history_kept room h w new (put.Done version) is (agrees, has_room, more, at) = made h w new is agrees more
history_kept room h w new (put.Conflict found) is (at, differs, same) = stays h new is same
history_kept room h w new put.Full is (agrees, has_room, same) = stays h new is same
history_kept room h w new put.Failed is (inl same) = stays h new is same
history_kept room h w new put.Failed is (inr (agrees, has_room, more)) = made h w new is agrees more
history_kept room h w new put.Memory is same = stays h new is same
