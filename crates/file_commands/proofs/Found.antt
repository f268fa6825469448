-- What is found in a file that was opened, and in the file of a store that is closed.
use Rattle.std.proofs.Common.{◌≡◌, ℕ, List, Bool, true, false, Option, None, Some, Result, Ok, Err, refl, sym, ap, ◌∙◌}
use Rattle.std.specs.Prelude.{IfOk}
use Rattle.std.proofs.lemmas.Bool.{false≢true}
use Rattle.std.proofs.lemmas.Option.{none-some, same_Some}
use Rattle.cluster_objects.specs.declared.objects.Write.{Write}
use Rattle.cluster_history.specs.History.{History, IsHistory}
use Rattle.cluster_file.specs.Files.{Standing, Stands, Damaged, damage_in, damage_of, history_in, history_of, stands}
use Rattle.cluster_file.proofs.Standing.{is_history}
use Rattle.log_store.specs.Store.{IsWhole, store_history}
use Rattle.file_commands.specs.Opens.{Opens, found_in}

found_whole : (st : Standing) → damage_of st ≡ None → found_in st ≡ Ok (history_of st)
found_whole (Stands h place) e = refl
found_whole (Damaged at) e = absurd (none-some at (sym e))

found_damage : (st : Standing) (at : ℕ) → damage_of st ≡ Some at → found_in st ≡ Err at
found_damage (Stands h place) at e = absurd (none-some at e)
found_damage (Damaged place) at e = ap Err (same_Some place at e)

found_history : (st : Standing) → IsHistory (history_of st) → IfOk (found_in st) IsHistory
found_history (Stands h place) is = is
found_history (Damaged at) is = tt

-- what the bytes stand for may always be found
pub opens_any : (tells : Bool) (content : List ℕ) → Opens tells content (found_in (stands content))
opens_any tells content = record { told = λ e. refl; history = found_history (stands content) (is_history content) }

pub opens_history : (tells : Bool) (content : List ℕ) (h : History) → (tells ≡ true → damage_in content ≡ None) → (tells ≡ true → h ≡ history_in content) → IsHistory h → Opens tells content (Ok h)
opens_history tells content h whole is history = record { told = λ e. ap Ok (is e) ∙ sym (found_whole (stands content) (whole e)); history = history }

pub opens_damage : (tells : Bool) (content : List ℕ) (at : ℕ) → (tells ≡ true → damage_in content ≡ Some at) → Opens tells content (Err at)
opens_damage tells content at damage = record { told = λ e. sym (found_damage (stands content) at (damage e)); history = tt }

told_history : (tells : Bool) (content : List ℕ) (ws : List Write) → tells ≡ true → store_history tells content ws ≡ history_in content
told_history true content ws e = refl
told_history false content ws e = absurd (false≢true e)

-- the file of a store that is closed
pub opens_closed : (tells : Bool) (content : List ℕ) (ws : List Write) → IsWhole tells content → IsHistory (store_history tells content ws) → Opens tells content (Ok (store_history tells content ws))
opens_closed tells content ws whole history = opens_history tells content (store_history tells content ws) whole (told_history tells content ws) history

-- a file that stands for what it stood for
pub opens_same : (tells now : Bool) (content new : List ℕ) (found : Result History ℕ) → now ≡ tells → (tells ≡ true → stands new ≡ stands content) → Opens tells content found → Opens now new found
opens_same tells now content new found e same opens = record {
  told = λ told.
      let before = sym e ∙ told in
      opens.told before ∙ ap found_in (sym (same before));
  history = opens.history;
}
