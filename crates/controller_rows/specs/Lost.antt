-- The worked row lost: what a worker saw before each write of the installer and of phases, and the write. Made by scripts/rows_as_laws.py.
use Rattle.std.specs.Prelude.{◌≡◌, ℕ, ℤ, pos, true, false, List, [], ◌∷◌, Option, Some, None, slice_get, codes}
use Rattle.cluster_objects.specs.Kinds.{operators, local}
use Rattle.cluster_objects.specs.declared.keys.Key.{Key}
use Rattle.cluster_objects.specs.declared.objects.Status.TheVariants as status
use Rattle.cluster_objects.specs.declared.objects.Write.{Write}
use Rattle.cluster_objects.specs.declared.objects.Writer.TheVariants as writer
use Rattle.cluster_objects.specs.declared.plans.PlanPhase.TheVariants as plan
use Rattle.cluster_objects.specs.declared.plans.StepState.TheVariants as step
use Rattle.cluster_objects.specs.declared.statuses.CsvPhase.TheVariants as csv
use Rattle.cluster_objects.specs.declared.statuses.Made.TheVariants as made
use Rattle.cluster_objects.specs.declared.statuses.Readiness.TheVariants as readiness
use Rattle.cluster_objects.specs.declared.statuses.SubState.TheVariants as sub
use Rattle.cluster_history.specs.Views.{View}
use Rattle.cluster_history.specs.declared.slots.Slot.{Slot}
use Rattle.controller_rows.specs.First.{a_resolution}

abbrev slot_3 : Key × Slot
slot_3 = (record { group = local; kind = codes "Resolution"; namespace = codes "default"; name = codes "current" }, record { version = 3; object = (Some (record { body = []; status = status.Resolution a_resolution; owner = None; stamp = None; seen = 2 })); stamps = [] })

abbrev slot_1 : Key × Slot
slot_1 = (record { group = operators; kind = codes "CatalogSource"; namespace = codes "olm"; name = codes "cat" }, record { version = 1; object = (Some (record { body = codes "body 0"; status = status.Catalog (record { priority = pos 0 }); owner = None; stamp = None; seen = 0 })); stamps = [] })

abbrev slot_4 : Key × Slot
slot_4 = (record { group = operators; kind = codes "InstallPlan"; namespace = codes "default"; name = codes "install-1" }, record { version = 4; object = (Some (record { body = []; status = status.Plan (record { number = 1; manual = false; approved = false; phase = plan.Planning; cause = None; steps = (record { key = record { group = codes "apiextensions.k8s.io"; kind = codes "CustomResourceDefinition"; namespace = []; name = codes "apps.argo.io" }; body = codes "body 1"; made = made.Plain; state = step.Unknown } ∷ record { key = record { group = operators; kind = codes "ClusterServiceVersion"; namespace = codes "default"; name = codes "argo.v1.0.0" }; body = codes "body 2"; made = made.Csv (record { «package» = (Some (codes "argo")); version = codes "1.0.0"; owned = (record { name = codes "apps.argo.io"; version = codes "v1"; kind = codes "App" } ∷ []); needed = []; deployments = (codes "argo-operator" ∷ []); replaces = None; phase = csv.Nothing }); state = step.Unknown } ∷ []) }); owner = None; stamp = None; seen = 3 })); stamps = [] })

abbrev slot_2 : Key × Slot
slot_2 = (record { group = operators; kind = codes "Subscription"; namespace = codes "default"; name = codes "argo" }, record { version = 2; object = (Some (record { body = codes "body 3"; status = status.Subscription (record { spec = record { «package» = codes "argo"; channel = None; source = codes "cat"; source_namespace = codes "olm"; starting = None; manual = false }; state = sub.Nothing }); owner = None; stamp = None; seen = 1 })); stamps = [] })

-- what is seen before write 5
abbrev pub view_5 : View
view_5 = record { namespace = codes "default"; length = 4; slots = slot_3 ∷ slot_1 ∷ slot_4 ∷ slot_2 ∷ [] }

abbrev pub write_5 : Write
write_5 = record { by = writer.Installer; expect = 4; key = record { group = operators; kind = codes "InstallPlan"; namespace = codes "default"; name = codes "install-1" }; object = (Some (record { body = []; status = status.Plan (record { number = 1; manual = false; approved = false; phase = plan.Installing; cause = None; steps = (record { key = record { group = codes "apiextensions.k8s.io"; kind = codes "CustomResourceDefinition"; namespace = []; name = codes "apps.argo.io" }; body = codes "body 1"; made = made.Plain; state = step.Unknown } ∷ record { key = record { group = operators; kind = codes "ClusterServiceVersion"; namespace = codes "default"; name = codes "argo.v1.0.0" }; body = codes "body 2"; made = made.Csv (record { «package» = (Some (codes "argo")); version = codes "1.0.0"; owned = (record { name = codes "apps.argo.io"; version = codes "v1"; kind = codes "App" } ∷ []); needed = []; deployments = (codes "argo-operator" ∷ []); replaces = None; phase = csv.Nothing }); state = step.Unknown } ∷ []) }); owner = None; stamp = None; seen = 4 })) }

abbrev slot_5 : Key × Slot
slot_5 = (record { group = operators; kind = codes "InstallPlan"; namespace = codes "default"; name = codes "install-1" }, record { version = 5; object = (Some (record { body = []; status = status.Plan (record { number = 1; manual = false; approved = false; phase = plan.Installing; cause = None; steps = (record { key = record { group = codes "apiextensions.k8s.io"; kind = codes "CustomResourceDefinition"; namespace = []; name = codes "apps.argo.io" }; body = codes "body 1"; made = made.Plain; state = step.Unknown } ∷ record { key = record { group = operators; kind = codes "ClusterServiceVersion"; namespace = codes "default"; name = codes "argo.v1.0.0" }; body = codes "body 2"; made = made.Csv (record { «package» = (Some (codes "argo")); version = codes "1.0.0"; owned = (record { name = codes "apps.argo.io"; version = codes "v1"; kind = codes "App" } ∷ []); needed = []; deployments = (codes "argo-operator" ∷ []); replaces = None; phase = csv.Nothing }); state = step.Unknown } ∷ []) }); owner = None; stamp = None; seen = 4 })); stamps = [] })

-- what is seen before write 6
abbrev pub view_6 : View
view_6 = record { namespace = codes "default"; length = 5; slots = slot_3 ∷ slot_1 ∷ slot_5 ∷ slot_2 ∷ [] }

abbrev pub write_6 : Write
write_6 = record { by = writer.Installer; expect = 5; key = record { group = operators; kind = codes "InstallPlan"; namespace = codes "default"; name = codes "install-1" }; object = (Some (record { body = []; status = status.Plan (record { number = 1; manual = false; approved = false; phase = plan.Installing; cause = None; steps = (record { key = record { group = codes "apiextensions.k8s.io"; kind = codes "CustomResourceDefinition"; namespace = []; name = codes "apps.argo.io" }; body = codes "body 1"; made = made.Plain; state = step.Aimed 0 } ∷ record { key = record { group = operators; kind = codes "ClusterServiceVersion"; namespace = codes "default"; name = codes "argo.v1.0.0" }; body = codes "body 2"; made = made.Csv (record { «package» = (Some (codes "argo")); version = codes "1.0.0"; owned = (record { name = codes "apps.argo.io"; version = codes "v1"; kind = codes "App" } ∷ []); needed = []; deployments = (codes "argo-operator" ∷ []); replaces = None; phase = csv.Nothing }); state = step.Unknown } ∷ []) }); owner = None; stamp = None; seen = 5 })) }

abbrev slot_6 : Key × Slot
slot_6 = (record { group = operators; kind = codes "InstallPlan"; namespace = codes "default"; name = codes "install-1" }, record { version = 6; object = (Some (record { body = []; status = status.Plan (record { number = 1; manual = false; approved = false; phase = plan.Installing; cause = None; steps = (record { key = record { group = codes "apiextensions.k8s.io"; kind = codes "CustomResourceDefinition"; namespace = []; name = codes "apps.argo.io" }; body = codes "body 1"; made = made.Plain; state = step.Aimed 0 } ∷ record { key = record { group = operators; kind = codes "ClusterServiceVersion"; namespace = codes "default"; name = codes "argo.v1.0.0" }; body = codes "body 2"; made = made.Csv (record { «package» = (Some (codes "argo")); version = codes "1.0.0"; owned = (record { name = codes "apps.argo.io"; version = codes "v1"; kind = codes "App" } ∷ []); needed = []; deployments = (codes "argo-operator" ∷ []); replaces = None; phase = csv.Nothing }); state = step.Unknown } ∷ []) }); owner = None; stamp = None; seen = 5 })); stamps = [] })

-- what is seen before write 7
abbrev pub view_7 : View
view_7 = record { namespace = codes "default"; length = 6; slots = slot_3 ∷ slot_1 ∷ slot_6 ∷ slot_2 ∷ [] }

abbrev pub write_7 : Write
write_7 = record { by = writer.Installer; expect = 0; key = record { group = codes "apiextensions.k8s.io"; kind = codes "CustomResourceDefinition"; namespace = []; name = codes "apps.argo.io" }; object = (Some (record { body = codes "body 1"; status = status.Plain; owner = None; stamp = (Some (record { namespace = codes "default"; plan = 1; step = 0 })); seen = 6 })) }

abbrev slot_8 : Key × Slot
slot_8 = (record { group = codes "apiextensions.k8s.io"; kind = codes "CustomResourceDefinition"; namespace = []; name = codes "apps.argo.io" }, record { version = 8; object = None; stamps = (record { namespace = codes "default"; plan = 1; step = 0 } ∷ []) })

-- what is seen before write 9
abbrev pub view_9 : View
view_9 = record { namespace = codes "default"; length = 8; slots = slot_8 ∷ slot_3 ∷ slot_1 ∷ slot_6 ∷ slot_2 ∷ [] }

abbrev pub write_9 : Write
write_9 = record { by = writer.Installer; expect = 6; key = record { group = operators; kind = codes "InstallPlan"; namespace = codes "default"; name = codes "install-1" }; object = (Some (record { body = []; status = status.Plan (record { number = 1; manual = false; approved = false; phase = plan.Installing; cause = None; steps = (record { key = record { group = codes "apiextensions.k8s.io"; kind = codes "CustomResourceDefinition"; namespace = []; name = codes "apps.argo.io" }; body = codes "body 1"; made = made.Plain; state = step.Created } ∷ record { key = record { group = operators; kind = codes "ClusterServiceVersion"; namespace = codes "default"; name = codes "argo.v1.0.0" }; body = codes "body 2"; made = made.Csv (record { «package» = (Some (codes "argo")); version = codes "1.0.0"; owned = (record { name = codes "apps.argo.io"; version = codes "v1"; kind = codes "App" } ∷ []); needed = []; deployments = (codes "argo-operator" ∷ []); replaces = None; phase = csv.Nothing }); state = step.Unknown } ∷ []) }); owner = None; stamp = None; seen = 8 })) }

abbrev slot_9 : Key × Slot
slot_9 = (record { group = operators; kind = codes "InstallPlan"; namespace = codes "default"; name = codes "install-1" }, record { version = 9; object = (Some (record { body = []; status = status.Plan (record { number = 1; manual = false; approved = false; phase = plan.Installing; cause = None; steps = (record { key = record { group = codes "apiextensions.k8s.io"; kind = codes "CustomResourceDefinition"; namespace = []; name = codes "apps.argo.io" }; body = codes "body 1"; made = made.Plain; state = step.Created } ∷ record { key = record { group = operators; kind = codes "ClusterServiceVersion"; namespace = codes "default"; name = codes "argo.v1.0.0" }; body = codes "body 2"; made = made.Csv (record { «package» = (Some (codes "argo")); version = codes "1.0.0"; owned = (record { name = codes "apps.argo.io"; version = codes "v1"; kind = codes "App" } ∷ []); needed = []; deployments = (codes "argo-operator" ∷ []); replaces = None; phase = csv.Nothing }); state = step.Unknown } ∷ []) }); owner = None; stamp = None; seen = 8 })); stamps = [] })

-- what is seen before write 10
abbrev pub view_10 : View
view_10 = record { namespace = codes "default"; length = 9; slots = slot_8 ∷ slot_3 ∷ slot_1 ∷ slot_9 ∷ slot_2 ∷ [] }

abbrev pub write_10 : Write
write_10 = record { by = writer.Installer; expect = 9; key = record { group = operators; kind = codes "InstallPlan"; namespace = codes "default"; name = codes "install-1" }; object = (Some (record { body = []; status = status.Plan (record { number = 1; manual = false; approved = false; phase = plan.Installing; cause = None; steps = (record { key = record { group = codes "apiextensions.k8s.io"; kind = codes "CustomResourceDefinition"; namespace = []; name = codes "apps.argo.io" }; body = codes "body 1"; made = made.Plain; state = step.Created } ∷ record { key = record { group = operators; kind = codes "ClusterServiceVersion"; namespace = codes "default"; name = codes "argo.v1.0.0" }; body = codes "body 2"; made = made.Csv (record { «package» = (Some (codes "argo")); version = codes "1.0.0"; owned = (record { name = codes "apps.argo.io"; version = codes "v1"; kind = codes "App" } ∷ []); needed = []; deployments = (codes "argo-operator" ∷ []); replaces = None; phase = csv.Nothing }); state = step.Aimed 0 } ∷ []) }); owner = None; stamp = None; seen = 9 })) }
