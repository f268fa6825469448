-- What each of a user's events asks for, after a history and by the files that a folder may hold.
use Rattle.std.specs.Prelude.{◌≡◌, ⊤, Bool, true, false, ℕ, List, Option, Result}
use Rattle.std.specs.Result.{IsOk}
use Rattle.cluster_objects.specs.declared.objects.Write.{Write}
use Rattle.cluster_history.specs.History.{History}
use Rattle.event_script.specs.declared.events.Event.{Event}
use Rattle.event_script.specs.declared.events.Event.TheVariants as event
use Rattle.object_bodies.specs.Bodies.{user_object}
use Rattle.user_events.specs.Asked as user
use Rattle.user_events.specs.declared.refusals.Refusal.{Refusal}
use Rattle.folder_events.specs.Catalogs.{AsksCatalog}

-- one of a user's seven events
abbrev pub is_users : Event → Bool
is_users (event.Apply body) = true
is_users (event.Delete group kind namespace name) = true
is_users (event.Approve namespace name) = true
is_users (event.Catalog namespace name path priority) = true
is_users (event.Ready namespace name state) = true
is_users (event.Retry namespace budget) = true
is_users (event.Worker role namespace) = false
is_users (event.Look worker) = false
is_users (event.Act worker) = false
is_users (event.Settle namespace turns) = false
is_users event.Restart = false
is_users (event.Release namespace) = true
is_users (event.Lease worker now keep) = false

-- a `catalog` event alone reads the folder
abbrev pub is_of_folder : Event → Bool
is_of_folder (event.Apply body) = false
is_of_folder (event.Delete group kind namespace name) = false
is_of_folder (event.Approve namespace name) = false
is_of_folder (event.Catalog namespace name path priority) = true
is_of_folder (event.Ready namespace name state) = false
is_of_folder (event.Retry namespace budget) = false
is_of_folder (event.Worker role namespace) = false
is_of_folder (event.Look worker) = false
is_of_folder (event.Act worker) = false
is_of_folder (event.Settle namespace turns) = false
is_of_folder event.Restart = false
is_of_folder (event.Release namespace) = false
is_of_folder (event.Lease worker now keep) = false

-- an apply's body gives an object, and so a key; the other events need no body for theirs
abbrev pub HasKey : Event → Type 0
HasKey (event.Apply body) = IsOk (user_object body)
HasKey (event.Delete group kind namespace name) = ⊤
HasKey (event.Approve namespace name) = ⊤
HasKey (event.Catalog namespace name path priority) = ⊤
HasKey (event.Ready namespace name state) = ⊤
HasKey (event.Retry namespace budget) = ⊤
HasKey (event.Worker role namespace) = ⊤
HasKey (event.Look worker) = ⊤
HasKey (event.Act worker) = ⊤
HasKey (event.Settle namespace turns) = ⊤
HasKey event.Restart = ⊤
HasKey (event.Release namespace) = ⊤
HasKey (event.Lease worker now keep) = ⊤

abbrev pub Asks : Option (List (List ℕ × List ℕ)) → History → Event → Result Write Refusal → Type 0
Asks held h (event.Apply body) asked = user.apply h body ≡ asked
Asks held h (event.Delete group kind namespace name) asked =
    user.delete h (record { group = group; kind = kind; namespace = namespace; name = name }) ≡ asked
Asks held h (event.Approve namespace name) asked = user.approve h namespace name ≡ asked
Asks held h (event.Catalog namespace name path priority) asked = AsksCatalog held h namespace name path priority asked
Asks held h (event.Ready namespace name state) asked = user.ready h namespace name state ≡ asked
Asks held h (event.Retry namespace budget) asked = user.retry h namespace budget ≡ asked
Asks held h (event.Worker role namespace) asked = ⊥
Asks held h (event.Look worker) asked = ⊥
Asks held h (event.Act worker) asked = ⊥
Asks held h (event.Settle namespace turns) asked = ⊥
Asks held h event.Restart asked = ⊥
Asks held h (event.Release namespace) asked = user.release h namespace ≡ asked
Asks held h (event.Lease worker now keep) asked = ⊥
