-- The worked row upgrade: what a worker saw before each write of the installer and of phases, and the write. Made by scripts/rows_as_laws.py.
use Rattle.std.specs.Prelude.{◌≡◌, ℕ, ℤ, pos, true, false, List, [], ◌∷◌, Option, Some, None, slice_get, codes}
use Rattle.cluster_objects.specs.Kinds.{operators, local}
use Rattle.cluster_objects.specs.declared.keys.Key.{Key}
use Rattle.cluster_objects.specs.declared.objects.Status.TheVariants as status
use Rattle.cluster_objects.specs.declared.objects.Write.{Write}
use Rattle.cluster_objects.specs.declared.objects.Writer.TheVariants as writer
use Rattle.cluster_objects.specs.declared.plans.PlanPhase.TheVariants as plan
use Rattle.cluster_objects.specs.declared.plans.StepState.TheVariants as step
use Rattle.cluster_objects.specs.declared.statuses.CsvPhase.TheVariants as csv
use Rattle.cluster_objects.specs.declared.statuses.Made.TheVariants as made
use Rattle.cluster_objects.specs.declared.statuses.Readiness.TheVariants as readiness
use Rattle.cluster_objects.specs.declared.statuses.SubState.TheVariants as sub
use Rattle.cluster_history.specs.Views.{View}
use Rattle.cluster_history.specs.declared.slots.Slot.{Slot}
use Rattle.controller_rows.specs.First.{a_resolution}

abbrev slot_3 : Key × Slot
slot_3 = (record { group = local; kind = codes "Resolution"; namespace = codes "default"; name = codes "current" }, record { version = 3; object = (Some (record { body = []; status = status.Resolution a_resolution; owner = None; stamp = None; seen = 2 })); stamps = [] })

abbrev slot_1 : Key × Slot
slot_1 = (record { group = operators; kind = codes "CatalogSource"; namespace = codes "olm"; name = codes "cat" }, record { version = 1; object = (Some (record { body = codes "body 0"; status = status.Catalog (record { priority = pos 0 }); owner = None; stamp = None; seen = 0 })); stamps = [] })

abbrev slot_4 : Key × Slot
slot_4 = (record { group = operators; kind = codes "InstallPlan"; namespace = codes "default"; name = codes "install-1" }, record { version = 4; object = (Some (record { body = []; status = status.Plan (record { number = 1; manual = false; approved = false; phase = plan.Planning; cause = None; steps = (record { key = record { group = codes "apiextensions.k8s.io"; kind = codes "CustomResourceDefinition"; namespace = []; name = codes "apps.argo.io" }; body = codes "body 1"; made = made.Plain; state = step.Unknown } ∷ record { key = record { group = operators; kind = codes "ClusterServiceVersion"; namespace = codes "default"; name = codes "argo.v1.0.0" }; body = codes "body 2"; made = made.Csv (record { «package» = (Some (codes "argo")); version = codes "1.0.0"; owned = (record { name = codes "apps.argo.io"; version = codes "v1"; kind = codes "App" } ∷ []); needed = []; deployments = (codes "argo-operator" ∷ []); replaces = None; phase = csv.Nothing }); state = step.Unknown } ∷ []) }); owner = None; stamp = None; seen = 3 })); stamps = [] })

abbrev slot_2 : Key × Slot
slot_2 = (record { group = operators; kind = codes "Subscription"; namespace = codes "default"; name = codes "argo" }, record { version = 2; object = (Some (record { body = codes "body 3"; status = status.Subscription (record { spec = record { «package» = codes "argo"; channel = None; source = codes "cat"; source_namespace = codes "olm"; starting = None; manual = false }; state = sub.Nothing }); owner = None; stamp = None; seen = 1 })); stamps = [] })

-- what is seen before write 5
abbrev pub view_5 : View
view_5 = record { namespace = codes "default"; length = 4; slots = slot_3 ∷ slot_1 ∷ slot_4 ∷ slot_2 ∷ [] }

abbrev pub write_5 : Write
write_5 = record { by = writer.Installer; expect = 4; key = record { group = operators; kind = codes "InstallPlan"; namespace = codes "default"; name = codes "install-1" }; object = (Some (record { body = []; status = status.Plan (record { number = 1; manual = false; approved = false; phase = plan.Installing; cause = None; steps = (record { key = record { group = codes "apiextensions.k8s.io"; kind = codes "CustomResourceDefinition"; namespace = []; name = codes "apps.argo.io" }; body = codes "body 1"; made = made.Plain; state = step.Unknown } ∷ record { key = record { group = operators; kind = codes "ClusterServiceVersion"; namespace = codes "default"; name = codes "argo.v1.0.0" }; body = codes "body 2"; made = made.Csv (record { «package» = (Some (codes "argo")); version = codes "1.0.0"; owned = (record { name = codes "apps.argo.io"; version = codes "v1"; kind = codes "App" } ∷ []); needed = []; deployments = (codes "argo-operator" ∷ []); replaces = None; phase = csv.Nothing }); state = step.Unknown } ∷ []) }); owner = None; stamp = None; seen = 4 })) }

abbrev slot_5 : Key × Slot
slot_5 = (record { group = operators; kind = codes "InstallPlan"; namespace = codes "default"; name = codes "install-1" }, record { version = 5; object = (Some (record { body = []; status = status.Plan (record { number = 1; manual = false; approved = false; phase = plan.Installing; cause = None; steps = (record { key = record { group = codes "apiextensions.k8s.io"; kind = codes "CustomResourceDefinition"; namespace = []; name = codes "apps.argo.io" }; body = codes "body 1"; made = made.Plain; state = step.Unknown } ∷ record { key = record { group = operators; kind = codes "ClusterServiceVersion"; namespace = codes "default"; name = codes "argo.v1.0.0" }; body = codes "body 2"; made = made.Csv (record { «package» = (Some (codes "argo")); version = codes "1.0.0"; owned = (record { name = codes "apps.argo.io"; version = codes "v1"; kind = codes "App" } ∷ []); needed = []; deployments = (codes "argo-operator" ∷ []); replaces = None; phase = csv.Nothing }); state = step.Unknown } ∷ []) }); owner = None; stamp = None; seen = 4 })); stamps = [] })

-- what is seen before write 6
abbrev pub view_6 : View
view_6 = record { namespace = codes "default"; length = 5; slots = slot_3 ∷ slot_1 ∷ slot_5 ∷ slot_2 ∷ [] }

abbrev pub write_6 : Write
write_6 = record { by = writer.Installer; expect = 5; key = record { group = operators; kind = codes "InstallPlan"; namespace = codes "default"; name = codes "install-1" }; object = (Some (record { body = []; status = status.Plan (record { number = 1; manual = false; approved = false; phase = plan.Installing; cause = None; steps = (record { key = record { group = codes "apiextensions.k8s.io"; kind = codes "CustomResourceDefinition"; namespace = []; name = codes "apps.argo.io" }; body = codes "body 1"; made = made.Plain; state = step.Aimed 0 } ∷ record { key = record { group = operators; kind = codes "ClusterServiceVersion"; namespace = codes "default"; name = codes "argo.v1.0.0" }; body = codes "body 2"; made = made.Csv (record { «package» = (Some (codes "argo")); version = codes "1.0.0"; owned = (record { name = codes "apps.argo.io"; version = codes "v1"; kind = codes "App" } ∷ []); needed = []; deployments = (codes "argo-operator" ∷ []); replaces = None; phase = csv.Nothing }); state = step.Unknown } ∷ []) }); owner = None; stamp = None; seen = 5 })) }

abbrev slot_6 : Key × Slot
slot_6 = (record { group = operators; kind = codes "InstallPlan"; namespace = codes "default"; name = codes "install-1" }, record { version = 6; object = (Some (record { body = []; status = status.Plan (record { number = 1; manual = false; approved = false; phase = plan.Installing; cause = None; steps = (record { key = record { group = codes "apiextensions.k8s.io"; kind = codes "CustomResourceDefinition"; namespace = []; name = codes "apps.argo.io" }; body = codes "body 1"; made = made.Plain; state = step.Aimed 0 } ∷ record { key = record { group = operators; kind = codes "ClusterServiceVersion"; namespace = codes "default"; name = codes "argo.v1.0.0" }; body = codes "body 2"; made = made.Csv (record { «package» = (Some (codes "argo")); version = codes "1.0.0"; owned = (record { name = codes "apps.argo.io"; version = codes "v1"; kind = codes "App" } ∷ []); needed = []; deployments = (codes "argo-operator" ∷ []); replaces = None; phase = csv.Nothing }); state = step.Unknown } ∷ []) }); owner = None; stamp = None; seen = 5 })); stamps = [] })

-- what is seen before write 7
abbrev pub view_7 : View
view_7 = record { namespace = codes "default"; length = 6; slots = slot_3 ∷ slot_1 ∷ slot_6 ∷ slot_2 ∷ [] }

abbrev pub write_7 : Write
write_7 = record { by = writer.Installer; expect = 0; key = record { group = codes "apiextensions.k8s.io"; kind = codes "CustomResourceDefinition"; namespace = []; name = codes "apps.argo.io" }; object = (Some (record { body = codes "body 1"; status = status.Plain; owner = None; stamp = (Some (record { namespace = codes "default"; plan = 1; step = 0 })); seen = 6 })) }

abbrev slot_7 : Key × Slot
slot_7 = (record { group = codes "apiextensions.k8s.io"; kind = codes "CustomResourceDefinition"; namespace = []; name = codes "apps.argo.io" }, record { version = 7; object = (Some (record { body = codes "body 1"; status = status.Plain; owner = None; stamp = (Some (record { namespace = codes "default"; plan = 1; step = 0 })); seen = 6 })); stamps = (record { namespace = codes "default"; plan = 1; step = 0 } ∷ []) })

-- what is seen before write 8
abbrev pub view_8 : View
view_8 = record { namespace = codes "default"; length = 7; slots = slot_7 ∷ slot_3 ∷ slot_1 ∷ slot_6 ∷ slot_2 ∷ [] }

abbrev pub write_8 : Write
write_8 = record { by = writer.Installer; expect = 6; key = record { group = operators; kind = codes "InstallPlan"; namespace = codes "default"; name = codes "install-1" }; object = (Some (record { body = []; status = status.Plan (record { number = 1; manual = false; approved = false; phase = plan.Installing; cause = None; steps = (record { key = record { group = codes "apiextensions.k8s.io"; kind = codes "CustomResourceDefinition"; namespace = []; name = codes "apps.argo.io" }; body = codes "body 1"; made = made.Plain; state = step.Created } ∷ record { key = record { group = operators; kind = codes "ClusterServiceVersion"; namespace = codes "default"; name = codes "argo.v1.0.0" }; body = codes "body 2"; made = made.Csv (record { «package» = (Some (codes "argo")); version = codes "1.0.0"; owned = (record { name = codes "apps.argo.io"; version = codes "v1"; kind = codes "App" } ∷ []); needed = []; deployments = (codes "argo-operator" ∷ []); replaces = None; phase = csv.Nothing }); state = step.Unknown } ∷ []) }); owner = None; stamp = None; seen = 7 })) }

abbrev slot_8 : Key × Slot
slot_8 = (record { group = operators; kind = codes "InstallPlan"; namespace = codes "default"; name = codes "install-1" }, record { version = 8; object = (Some (record { body = []; status = status.Plan (record { number = 1; manual = false; approved = false; phase = plan.Installing; cause = None; steps = (record { key = record { group = codes "apiextensions.k8s.io"; kind = codes "CustomResourceDefinition"; namespace = []; name = codes "apps.argo.io" }; body = codes "body 1"; made = made.Plain; state = step.Created } ∷ record { key = record { group = operators; kind = codes "ClusterServiceVersion"; namespace = codes "default"; name = codes "argo.v1.0.0" }; body = codes "body 2"; made = made.Csv (record { «package» = (Some (codes "argo")); version = codes "1.0.0"; owned = (record { name = codes "apps.argo.io"; version = codes "v1"; kind = codes "App" } ∷ []); needed = []; deployments = (codes "argo-operator" ∷ []); replaces = None; phase = csv.Nothing }); state = step.Unknown } ∷ []) }); owner = None; stamp = None; seen = 7 })); stamps = [] })

-- what is seen before write 9
abbrev pub view_9 : View
view_9 = record { namespace = codes "default"; length = 8; slots = slot_7 ∷ slot_3 ∷ slot_1 ∷ slot_8 ∷ slot_2 ∷ [] }

abbrev pub write_9 : Write
write_9 = record { by = writer.Installer; expect = 8; key = record { group = operators; kind = codes "InstallPlan"; namespace = codes "default"; name = codes "install-1" }; object = (Some (record { body = []; status = status.Plan (record { number = 1; manual = false; approved = false; phase = plan.Installing; cause = None; steps = (record { key = record { group = codes "apiextensions.k8s.io"; kind = codes "CustomResourceDefinition"; namespace = []; name = codes "apps.argo.io" }; body = codes "body 1"; made = made.Plain; state = step.Created } ∷ record { key = record { group = operators; kind = codes "ClusterServiceVersion"; namespace = codes "default"; name = codes "argo.v1.0.0" }; body = codes "body 2"; made = made.Csv (record { «package» = (Some (codes "argo")); version = codes "1.0.0"; owned = (record { name = codes "apps.argo.io"; version = codes "v1"; kind = codes "App" } ∷ []); needed = []; deployments = (codes "argo-operator" ∷ []); replaces = None; phase = csv.Nothing }); state = step.Aimed 0 } ∷ []) }); owner = None; stamp = None; seen = 8 })) }

abbrev slot_9 : Key × Slot
slot_9 = (record { group = operators; kind = codes "InstallPlan"; namespace = codes "default"; name = codes "install-1" }, record { version = 9; object = (Some (record { body = []; status = status.Plan (record { number = 1; manual = false; approved = false; phase = plan.Installing; cause = None; steps = (record { key = record { group = codes "apiextensions.k8s.io"; kind = codes "CustomResourceDefinition"; namespace = []; name = codes "apps.argo.io" }; body = codes "body 1"; made = made.Plain; state = step.Created } ∷ record { key = record { group = operators; kind = codes "ClusterServiceVersion"; namespace = codes "default"; name = codes "argo.v1.0.0" }; body = codes "body 2"; made = made.Csv (record { «package» = (Some (codes "argo")); version = codes "1.0.0"; owned = (record { name = codes "apps.argo.io"; version = codes "v1"; kind = codes "App" } ∷ []); needed = []; deployments = (codes "argo-operator" ∷ []); replaces = None; phase = csv.Nothing }); state = step.Aimed 0 } ∷ []) }); owner = None; stamp = None; seen = 8 })); stamps = [] })

-- what is seen before write 10
abbrev pub view_10 : View
view_10 = record { namespace = codes "default"; length = 9; slots = slot_7 ∷ slot_3 ∷ slot_1 ∷ slot_9 ∷ slot_2 ∷ [] }

abbrev pub write_10 : Write
write_10 = record { by = writer.Installer; expect = 0; key = record { group = operators; kind = codes "ClusterServiceVersion"; namespace = codes "default"; name = codes "argo.v1.0.0" }; object = (Some (record { body = codes "body 2"; status = status.Csv (record { «package» = (Some (codes "argo")); version = codes "1.0.0"; owned = (record { name = codes "apps.argo.io"; version = codes "v1"; kind = codes "App" } ∷ []); needed = []; deployments = (codes "argo-operator" ∷ []); replaces = None; phase = csv.Nothing }); owner = None; stamp = (Some (record { namespace = codes "default"; plan = 1; step = 1 })); seen = 9 })) }

abbrev slot_10 : Key × Slot
slot_10 = (record { group = operators; kind = codes "ClusterServiceVersion"; namespace = codes "default"; name = codes "argo.v1.0.0" }, record { version = 10; object = (Some (record { body = codes "body 2"; status = status.Csv (record { «package» = (Some (codes "argo")); version = codes "1.0.0"; owned = (record { name = codes "apps.argo.io"; version = codes "v1"; kind = codes "App" } ∷ []); needed = []; deployments = (codes "argo-operator" ∷ []); replaces = None; phase = csv.Nothing }); owner = None; stamp = (Some (record { namespace = codes "default"; plan = 1; step = 1 })); seen = 9 })); stamps = (record { namespace = codes "default"; plan = 1; step = 1 } ∷ []) })

-- what is seen before write 11
abbrev pub view_11 : View
view_11 = record { namespace = codes "default"; length = 10; slots = slot_7 ∷ slot_3 ∷ slot_1 ∷ slot_10 ∷ slot_9 ∷ slot_2 ∷ [] }

abbrev pub write_11 : Write
write_11 = record { by = writer.Installer; expect = 9; key = record { group = operators; kind = codes "InstallPlan"; namespace = codes "default"; name = codes "install-1" }; object = (Some (record { body = []; status = status.Plan (record { number = 1; manual = false; approved = false; phase = plan.Installing; cause = None; steps = (record { key = record { group = codes "apiextensions.k8s.io"; kind = codes "CustomResourceDefinition"; namespace = []; name = codes "apps.argo.io" }; body = codes "body 1"; made = made.Plain; state = step.Created } ∷ record { key = record { group = operators; kind = codes "ClusterServiceVersion"; namespace = codes "default"; name = codes "argo.v1.0.0" }; body = codes "body 2"; made = made.Csv (record { «package» = (Some (codes "argo")); version = codes "1.0.0"; owned = (record { name = codes "apps.argo.io"; version = codes "v1"; kind = codes "App" } ∷ []); needed = []; deployments = (codes "argo-operator" ∷ []); replaces = None; phase = csv.Nothing }); state = step.Created } ∷ []) }); owner = None; stamp = None; seen = 10 })) }

abbrev slot_11 : Key × Slot
slot_11 = (record { group = operators; kind = codes "InstallPlan"; namespace = codes "default"; name = codes "install-1" }, record { version = 11; object = (Some (record { body = []; status = status.Plan (record { number = 1; manual = false; approved = false; phase = plan.Installing; cause = None; steps = (record { key = record { group = codes "apiextensions.k8s.io"; kind = codes "CustomResourceDefinition"; namespace = []; name = codes "apps.argo.io" }; body = codes "body 1"; made = made.Plain; state = step.Created } ∷ record { key = record { group = operators; kind = codes "ClusterServiceVersion"; namespace = codes "default"; name = codes "argo.v1.0.0" }; body = codes "body 2"; made = made.Csv (record { «package» = (Some (codes "argo")); version = codes "1.0.0"; owned = (record { name = codes "apps.argo.io"; version = codes "v1"; kind = codes "App" } ∷ []); needed = []; deployments = (codes "argo-operator" ∷ []); replaces = None; phase = csv.Nothing }); state = step.Created } ∷ []) }); owner = None; stamp = None; seen = 10 })); stamps = [] })

-- what is seen before write 12
abbrev pub view_12 : View
view_12 = record { namespace = codes "default"; length = 11; slots = slot_7 ∷ slot_3 ∷ slot_1 ∷ slot_10 ∷ slot_11 ∷ slot_2 ∷ [] }

abbrev pub write_12 : Write
write_12 = record { by = writer.Installer; expect = 11; key = record { group = operators; kind = codes "InstallPlan"; namespace = codes "default"; name = codes "install-1" }; object = (Some (record { body = []; status = status.Plan (record { number = 1; manual = false; approved = false; phase = plan.Complete; cause = None; steps = (record { key = record { group = codes "apiextensions.k8s.io"; kind = codes "CustomResourceDefinition"; namespace = []; name = codes "apps.argo.io" }; body = codes "body 1"; made = made.Plain; state = step.Created } ∷ record { key = record { group = operators; kind = codes "ClusterServiceVersion"; namespace = codes "default"; name = codes "argo.v1.0.0" }; body = codes "body 2"; made = made.Csv (record { «package» = (Some (codes "argo")); version = codes "1.0.0"; owned = (record { name = codes "apps.argo.io"; version = codes "v1"; kind = codes "App" } ∷ []); needed = []; deployments = (codes "argo-operator" ∷ []); replaces = None; phase = csv.Nothing }); state = step.Created } ∷ []) }); owner = None; stamp = None; seen = 11 })) }

abbrev slot_13 : Key × Slot
slot_13 = (record { group = local; kind = codes "Resolution"; namespace = codes "default"; name = codes "current" }, record { version = 13; object = (Some (record { body = []; status = status.Resolution a_resolution; owner = None; stamp = None; seen = 12 })); stamps = [] })

abbrev slot_12 : Key × Slot
slot_12 = (record { group = operators; kind = codes "InstallPlan"; namespace = codes "default"; name = codes "install-1" }, record { version = 12; object = (Some (record { body = []; status = status.Plan (record { number = 1; manual = false; approved = false; phase = plan.Complete; cause = None; steps = (record { key = record { group = codes "apiextensions.k8s.io"; kind = codes "CustomResourceDefinition"; namespace = []; name = codes "apps.argo.io" }; body = codes "body 1"; made = made.Plain; state = step.Created } ∷ record { key = record { group = operators; kind = codes "ClusterServiceVersion"; namespace = codes "default"; name = codes "argo.v1.0.0" }; body = codes "body 2"; made = made.Csv (record { «package» = (Some (codes "argo")); version = codes "1.0.0"; owned = (record { name = codes "apps.argo.io"; version = codes "v1"; kind = codes "App" } ∷ []); needed = []; deployments = (codes "argo-operator" ∷ []); replaces = None; phase = csv.Nothing }); state = step.Created } ∷ []) }); owner = None; stamp = None; seen = 11 })); stamps = [] })

-- what is seen before write 14
abbrev pub view_14 : View
view_14 = record { namespace = codes "default"; length = 13; slots = slot_7 ∷ slot_13 ∷ slot_1 ∷ slot_10 ∷ slot_12 ∷ slot_2 ∷ [] }

abbrev pub write_14 : Write
write_14 = record { by = writer.Phases; expect = 10; key = record { group = operators; kind = codes "ClusterServiceVersion"; namespace = codes "default"; name = codes "argo.v1.0.0" }; object = (Some (record { body = codes "body 2"; status = status.Csv (record { «package» = (Some (codes "argo")); version = codes "1.0.0"; owned = (record { name = codes "apps.argo.io"; version = codes "v1"; kind = codes "App" } ∷ []); needed = []; deployments = (codes "argo-operator" ∷ []); replaces = None; phase = csv.Pending }); owner = None; stamp = None; seen = 13 })) }

abbrev slot_14 : Key × Slot
slot_14 = (record { group = operators; kind = codes "ClusterServiceVersion"; namespace = codes "default"; name = codes "argo.v1.0.0" }, record { version = 14; object = (Some (record { body = codes "body 2"; status = status.Csv (record { «package» = (Some (codes "argo")); version = codes "1.0.0"; owned = (record { name = codes "apps.argo.io"; version = codes "v1"; kind = codes "App" } ∷ []); needed = []; deployments = (codes "argo-operator" ∷ []); replaces = None; phase = csv.Pending }); owner = None; stamp = None; seen = 13 })); stamps = (record { namespace = codes "default"; plan = 1; step = 1 } ∷ []) })

-- what is seen before write 15
abbrev pub view_15 : View
view_15 = record { namespace = codes "default"; length = 14; slots = slot_7 ∷ slot_13 ∷ slot_1 ∷ slot_14 ∷ slot_12 ∷ slot_2 ∷ [] }

abbrev pub write_15 : Write
write_15 = record { by = writer.Phases; expect = 14; key = record { group = operators; kind = codes "ClusterServiceVersion"; namespace = codes "default"; name = codes "argo.v1.0.0" }; object = (Some (record { body = codes "body 2"; status = status.Csv (record { «package» = (Some (codes "argo")); version = codes "1.0.0"; owned = (record { name = codes "apps.argo.io"; version = codes "v1"; kind = codes "App" } ∷ []); needed = []; deployments = (codes "argo-operator" ∷ []); replaces = None; phase = csv.InstallReady }); owner = None; stamp = None; seen = 14 })) }

abbrev slot_15 : Key × Slot
slot_15 = (record { group = operators; kind = codes "ClusterServiceVersion"; namespace = codes "default"; name = codes "argo.v1.0.0" }, record { version = 15; object = (Some (record { body = codes "body 2"; status = status.Csv (record { «package» = (Some (codes "argo")); version = codes "1.0.0"; owned = (record { name = codes "apps.argo.io"; version = codes "v1"; kind = codes "App" } ∷ []); needed = []; deployments = (codes "argo-operator" ∷ []); replaces = None; phase = csv.InstallReady }); owner = None; stamp = None; seen = 14 })); stamps = (record { namespace = codes "default"; plan = 1; step = 1 } ∷ []) })

-- what is seen before write 16
abbrev pub view_16 : View
view_16 = record { namespace = codes "default"; length = 15; slots = slot_7 ∷ slot_13 ∷ slot_1 ∷ slot_15 ∷ slot_12 ∷ slot_2 ∷ [] }

abbrev pub write_16 : Write
write_16 = record { by = writer.Phases; expect = 0; key = record { group = codes "apps"; kind = codes "Deployment"; namespace = codes "default"; name = codes "argo-operator" }; object = (Some (record { body = []; status = status.Deployment readiness.Waiting; owner = (Some (codes "argo.v1.0.0")); stamp = None; seen = 15 })) }

abbrev slot_16 : Key × Slot
slot_16 = (record { group = codes "apps"; kind = codes "Deployment"; namespace = codes "default"; name = codes "argo-operator" }, record { version = 16; object = (Some (record { body = []; status = status.Deployment readiness.Waiting; owner = (Some (codes "argo.v1.0.0")); stamp = None; seen = 15 })); stamps = [] })

-- what is seen before write 17
abbrev pub view_17 : View
view_17 = record { namespace = codes "default"; length = 16; slots = slot_7 ∷ slot_16 ∷ slot_13 ∷ slot_1 ∷ slot_15 ∷ slot_12 ∷ slot_2 ∷ [] }

abbrev pub write_17 : Write
write_17 = record { by = writer.Phases; expect = 15; key = record { group = operators; kind = codes "ClusterServiceVersion"; namespace = codes "default"; name = codes "argo.v1.0.0" }; object = (Some (record { body = codes "body 2"; status = status.Csv (record { «package» = (Some (codes "argo")); version = codes "1.0.0"; owned = (record { name = codes "apps.argo.io"; version = codes "v1"; kind = codes "App" } ∷ []); needed = []; deployments = (codes "argo-operator" ∷ []); replaces = None; phase = csv.Installing }); owner = None; stamp = None; seen = 16 })) }

abbrev slot_19 : Key × Slot
slot_19 = (record { group = codes "apps"; kind = codes "Deployment"; namespace = codes "default"; name = codes "argo-operator" }, record { version = 19; object = (Some (record { body = []; status = status.Deployment readiness.Ready; owner = (Some (codes "argo.v1.0.0")); stamp = None; seen = 18 })); stamps = [] })

abbrev slot_17 : Key × Slot
slot_17 = (record { group = operators; kind = codes "ClusterServiceVersion"; namespace = codes "default"; name = codes "argo.v1.0.0" }, record { version = 17; object = (Some (record { body = codes "body 2"; status = status.Csv (record { «package» = (Some (codes "argo")); version = codes "1.0.0"; owned = (record { name = codes "apps.argo.io"; version = codes "v1"; kind = codes "App" } ∷ []); needed = []; deployments = (codes "argo-operator" ∷ []); replaces = None; phase = csv.Installing }); owner = None; stamp = None; seen = 16 })); stamps = (record { namespace = codes "default"; plan = 1; step = 1 } ∷ []) })

abbrev slot_18 : Key × Slot
slot_18 = (record { group = operators; kind = codes "Subscription"; namespace = codes "default"; name = codes "argo" }, record { version = 18; object = (Some (record { body = codes "body 3"; status = status.Subscription (record { spec = record { «package» = codes "argo"; channel = None; source = codes "cat"; source_namespace = codes "olm"; starting = None; manual = false }; state = sub.AtLatestKnown }); owner = None; stamp = None; seen = 17 })); stamps = [] })

-- what is seen before write 20
abbrev pub view_20 : View
view_20 = record { namespace = codes "default"; length = 19; slots = slot_7 ∷ slot_19 ∷ slot_13 ∷ slot_1 ∷ slot_17 ∷ slot_12 ∷ slot_18 ∷ [] }

abbrev pub write_20 : Write
write_20 = record { by = writer.Phases; expect = 17; key = record { group = operators; kind = codes "ClusterServiceVersion"; namespace = codes "default"; name = codes "argo.v1.0.0" }; object = (Some (record { body = codes "body 2"; status = status.Csv (record { «package» = (Some (codes "argo")); version = codes "1.0.0"; owned = (record { name = codes "apps.argo.io"; version = codes "v1"; kind = codes "App" } ∷ []); needed = []; deployments = (codes "argo-operator" ∷ []); replaces = None; phase = csv.Succeeded }); owner = None; stamp = None; seen = 19 })) }

abbrev slot_23 : Key × Slot
slot_23 = (record { group = local; kind = codes "Resolution"; namespace = codes "default"; name = codes "current" }, record { version = 23; object = (Some (record { body = []; status = status.Resolution a_resolution; owner = None; stamp = None; seen = 22 })); stamps = [] })

abbrev slot_22 : Key × Slot
slot_22 = (record { group = operators; kind = codes "CatalogSource"; namespace = codes "olm"; name = codes "cat" }, record { version = 22; object = (Some (record { body = codes "body 4"; status = status.Catalog (record { priority = pos 0 }); owner = None; stamp = None; seen = 21 })); stamps = [] })

abbrev slot_20 : Key × Slot
slot_20 = (record { group = operators; kind = codes "ClusterServiceVersion"; namespace = codes "default"; name = codes "argo.v1.0.0" }, record { version = 20; object = (Some (record { body = codes "body 2"; status = status.Csv (record { «package» = (Some (codes "argo")); version = codes "1.0.0"; owned = (record { name = codes "apps.argo.io"; version = codes "v1"; kind = codes "App" } ∷ []); needed = []; deployments = (codes "argo-operator" ∷ []); replaces = None; phase = csv.Succeeded }); owner = None; stamp = None; seen = 19 })); stamps = (record { namespace = codes "default"; plan = 1; step = 1 } ∷ []) })

abbrev slot_24 : Key × Slot
slot_24 = (record { group = operators; kind = codes "InstallPlan"; namespace = codes "default"; name = codes "install-4" }, record { version = 24; object = (Some (record { body = []; status = status.Plan (record { number = 4; manual = false; approved = false; phase = plan.Planning; cause = None; steps = (record { key = record { group = codes "apiextensions.k8s.io"; kind = codes "CustomResourceDefinition"; namespace = []; name = codes "apps.argo.io" }; body = codes "body 1"; made = made.Plain; state = step.Unknown } ∷ record { key = record { group = operators; kind = codes "ClusterServiceVersion"; namespace = codes "default"; name = codes "argo.v1.2.0" }; body = codes "body 5"; made = made.Csv (record { «package» = (Some (codes "argo")); version = codes "1.2.0"; owned = (record { name = codes "apps.argo.io"; version = codes "v1"; kind = codes "App" } ∷ []); needed = []; deployments = (codes "argo-operator" ∷ []); replaces = (Some (codes "argo.v1.0.0")); phase = csv.Nothing }); state = step.Unknown } ∷ []) }); owner = None; stamp = None; seen = 23 })); stamps = [] })

-- what is seen before write 25
abbrev pub view_25 : View
view_25 = record { namespace = codes "default"; length = 24; slots = slot_7 ∷ slot_19 ∷ slot_23 ∷ slot_22 ∷ slot_20 ∷ slot_12 ∷ slot_24 ∷ slot_18 ∷ [] }

abbrev pub write_25 : Write
write_25 = record { by = writer.Installer; expect = 24; key = record { group = operators; kind = codes "InstallPlan"; namespace = codes "default"; name = codes "install-4" }; object = (Some (record { body = []; status = status.Plan (record { number = 4; manual = false; approved = false; phase = plan.Installing; cause = None; steps = (record { key = record { group = codes "apiextensions.k8s.io"; kind = codes "CustomResourceDefinition"; namespace = []; name = codes "apps.argo.io" }; body = codes "body 1"; made = made.Plain; state = step.Unknown } ∷ record { key = record { group = operators; kind = codes "ClusterServiceVersion"; namespace = codes "default"; name = codes "argo.v1.2.0" }; body = codes "body 5"; made = made.Csv (record { «package» = (Some (codes "argo")); version = codes "1.2.0"; owned = (record { name = codes "apps.argo.io"; version = codes "v1"; kind = codes "App" } ∷ []); needed = []; deployments = (codes "argo-operator" ∷ []); replaces = (Some (codes "argo.v1.0.0")); phase = csv.Nothing }); state = step.Unknown } ∷ []) }); owner = None; stamp = None; seen = 24 })) }

abbrev slot_25 : Key × Slot
slot_25 = (record { group = operators; kind = codes "InstallPlan"; namespace = codes "default"; name = codes "install-4" }, record { version = 25; object = (Some (record { body = []; status = status.Plan (record { number = 4; manual = false; approved = false; phase = plan.Installing; cause = None; steps = (record { key = record { group = codes "apiextensions.k8s.io"; kind = codes "CustomResourceDefinition"; namespace = []; name = codes "apps.argo.io" }; body = codes "body 1"; made = made.Plain; state = step.Unknown } ∷ record { key = record { group = operators; kind = codes "ClusterServiceVersion"; namespace = codes "default"; name = codes "argo.v1.2.0" }; body = codes "body 5"; made = made.Csv (record { «package» = (Some (codes "argo")); version = codes "1.2.0"; owned = (record { name = codes "apps.argo.io"; version = codes "v1"; kind = codes "App" } ∷ []); needed = []; deployments = (codes "argo-operator" ∷ []); replaces = (Some (codes "argo.v1.0.0")); phase = csv.Nothing }); state = step.Unknown } ∷ []) }); owner = None; stamp = None; seen = 24 })); stamps = [] })

-- what is seen before write 26
abbrev pub view_26 : View
view_26 = record { namespace = codes "default"; length = 25; slots = slot_7 ∷ slot_19 ∷ slot_23 ∷ slot_22 ∷ slot_20 ∷ slot_12 ∷ slot_25 ∷ slot_18 ∷ [] }

abbrev pub write_26 : Write
write_26 = record { by = writer.Installer; expect = 25; key = record { group = operators; kind = codes "InstallPlan"; namespace = codes "default"; name = codes "install-4" }; object = (Some (record { body = []; status = status.Plan (record { number = 4; manual = false; approved = false; phase = plan.Installing; cause = None; steps = (record { key = record { group = codes "apiextensions.k8s.io"; kind = codes "CustomResourceDefinition"; namespace = []; name = codes "apps.argo.io" }; body = codes "body 1"; made = made.Plain; state = step.Present } ∷ record { key = record { group = operators; kind = codes "ClusterServiceVersion"; namespace = codes "default"; name = codes "argo.v1.2.0" }; body = codes "body 5"; made = made.Csv (record { «package» = (Some (codes "argo")); version = codes "1.2.0"; owned = (record { name = codes "apps.argo.io"; version = codes "v1"; kind = codes "App" } ∷ []); needed = []; deployments = (codes "argo-operator" ∷ []); replaces = (Some (codes "argo.v1.0.0")); phase = csv.Nothing }); state = step.Unknown } ∷ []) }); owner = None; stamp = None; seen = 25 })) }

abbrev slot_26 : Key × Slot
slot_26 = (record { group = operators; kind = codes "InstallPlan"; namespace = codes "default"; name = codes "install-4" }, record { version = 26; object = (Some (record { body = []; status = status.Plan (record { number = 4; manual = false; approved = false; phase = plan.Installing; cause = None; steps = (record { key = record { group = codes "apiextensions.k8s.io"; kind = codes "CustomResourceDefinition"; namespace = []; name = codes "apps.argo.io" }; body = codes "body 1"; made = made.Plain; state = step.Present } ∷ record { key = record { group = operators; kind = codes "ClusterServiceVersion"; namespace = codes "default"; name = codes "argo.v1.2.0" }; body = codes "body 5"; made = made.Csv (record { «package» = (Some (codes "argo")); version = codes "1.2.0"; owned = (record { name = codes "apps.argo.io"; version = codes "v1"; kind = codes "App" } ∷ []); needed = []; deployments = (codes "argo-operator" ∷ []); replaces = (Some (codes "argo.v1.0.0")); phase = csv.Nothing }); state = step.Unknown } ∷ []) }); owner = None; stamp = None; seen = 25 })); stamps = [] })

-- what is seen before write 27
abbrev pub view_27 : View
view_27 = record { namespace = codes "default"; length = 26; slots = slot_7 ∷ slot_19 ∷ slot_23 ∷ slot_22 ∷ slot_20 ∷ slot_12 ∷ slot_26 ∷ slot_18 ∷ [] }

abbrev pub write_27 : Write
write_27 = record { by = writer.Installer; expect = 26; key = record { group = operators; kind = codes "InstallPlan"; namespace = codes "default"; name = codes "install-4" }; object = (Some (record { body = []; status = status.Plan (record { number = 4; manual = false; approved = false; phase = plan.Installing; cause = None; steps = (record { key = record { group = codes "apiextensions.k8s.io"; kind = codes "CustomResourceDefinition"; namespace = []; name = codes "apps.argo.io" }; body = codes "body 1"; made = made.Plain; state = step.Present } ∷ record { key = record { group = operators; kind = codes "ClusterServiceVersion"; namespace = codes "default"; name = codes "argo.v1.2.0" }; body = codes "body 5"; made = made.Csv (record { «package» = (Some (codes "argo")); version = codes "1.2.0"; owned = (record { name = codes "apps.argo.io"; version = codes "v1"; kind = codes "App" } ∷ []); needed = []; deployments = (codes "argo-operator" ∷ []); replaces = (Some (codes "argo.v1.0.0")); phase = csv.Nothing }); state = step.Aimed 0 } ∷ []) }); owner = None; stamp = None; seen = 26 })) }

abbrev slot_27 : Key × Slot
slot_27 = (record { group = operators; kind = codes "InstallPlan"; namespace = codes "default"; name = codes "install-4" }, record { version = 27; object = (Some (record { body = []; status = status.Plan (record { number = 4; manual = false; approved = false; phase = plan.Installing; cause = None; steps = (record { key = record { group = codes "apiextensions.k8s.io"; kind = codes "CustomResourceDefinition"; namespace = []; name = codes "apps.argo.io" }; body = codes "body 1"; made = made.Plain; state = step.Present } ∷ record { key = record { group = operators; kind = codes "ClusterServiceVersion"; namespace = codes "default"; name = codes "argo.v1.2.0" }; body = codes "body 5"; made = made.Csv (record { «package» = (Some (codes "argo")); version = codes "1.2.0"; owned = (record { name = codes "apps.argo.io"; version = codes "v1"; kind = codes "App" } ∷ []); needed = []; deployments = (codes "argo-operator" ∷ []); replaces = (Some (codes "argo.v1.0.0")); phase = csv.Nothing }); state = step.Aimed 0 } ∷ []) }); owner = None; stamp = None; seen = 26 })); stamps = [] })

-- what is seen before write 28
abbrev pub view_28 : View
view_28 = record { namespace = codes "default"; length = 27; slots = slot_7 ∷ slot_19 ∷ slot_23 ∷ slot_22 ∷ slot_20 ∷ slot_12 ∷ slot_27 ∷ slot_18 ∷ [] }

abbrev pub write_28 : Write
write_28 = record { by = writer.Installer; expect = 0; key = record { group = operators; kind = codes "ClusterServiceVersion"; namespace = codes "default"; name = codes "argo.v1.2.0" }; object = (Some (record { body = codes "body 5"; status = status.Csv (record { «package» = (Some (codes "argo")); version = codes "1.2.0"; owned = (record { name = codes "apps.argo.io"; version = codes "v1"; kind = codes "App" } ∷ []); needed = []; deployments = (codes "argo-operator" ∷ []); replaces = (Some (codes "argo.v1.0.0")); phase = csv.Nothing }); owner = None; stamp = (Some (record { namespace = codes "default"; plan = 4; step = 1 })); seen = 27 })) }

abbrev slot_28 : Key × Slot
slot_28 = (record { group = operators; kind = codes "ClusterServiceVersion"; namespace = codes "default"; name = codes "argo.v1.2.0" }, record { version = 28; object = (Some (record { body = codes "body 5"; status = status.Csv (record { «package» = (Some (codes "argo")); version = codes "1.2.0"; owned = (record { name = codes "apps.argo.io"; version = codes "v1"; kind = codes "App" } ∷ []); needed = []; deployments = (codes "argo-operator" ∷ []); replaces = (Some (codes "argo.v1.0.0")); phase = csv.Nothing }); owner = None; stamp = (Some (record { namespace = codes "default"; plan = 4; step = 1 })); seen = 27 })); stamps = (record { namespace = codes "default"; plan = 4; step = 1 } ∷ []) })

-- what is seen before write 29
abbrev pub view_29 : View
view_29 = record { namespace = codes "default"; length = 28; slots = slot_7 ∷ slot_19 ∷ slot_23 ∷ slot_22 ∷ slot_20 ∷ slot_28 ∷ slot_12 ∷ slot_27 ∷ slot_18 ∷ [] }

abbrev pub write_29 : Write
write_29 = record { by = writer.Installer; expect = 27; key = record { group = operators; kind = codes "InstallPlan"; namespace = codes "default"; name = codes "install-4" }; object = (Some (record { body = []; status = status.Plan (record { number = 4; manual = false; approved = false; phase = plan.Installing; cause = None; steps = (record { key = record { group = codes "apiextensions.k8s.io"; kind = codes "CustomResourceDefinition"; namespace = []; name = codes "apps.argo.io" }; body = codes "body 1"; made = made.Plain; state = step.Present } ∷ record { key = record { group = operators; kind = codes "ClusterServiceVersion"; namespace = codes "default"; name = codes "argo.v1.2.0" }; body = codes "body 5"; made = made.Csv (record { «package» = (Some (codes "argo")); version = codes "1.2.0"; owned = (record { name = codes "apps.argo.io"; version = codes "v1"; kind = codes "App" } ∷ []); needed = []; deployments = (codes "argo-operator" ∷ []); replaces = (Some (codes "argo.v1.0.0")); phase = csv.Nothing }); state = step.Created } ∷ []) }); owner = None; stamp = None; seen = 28 })) }

abbrev slot_29 : Key × Slot
slot_29 = (record { group = operators; kind = codes "InstallPlan"; namespace = codes "default"; name = codes "install-4" }, record { version = 29; object = (Some (record { body = []; status = status.Plan (record { number = 4; manual = false; approved = false; phase = plan.Installing; cause = None; steps = (record { key = record { group = codes "apiextensions.k8s.io"; kind = codes "CustomResourceDefinition"; namespace = []; name = codes "apps.argo.io" }; body = codes "body 1"; made = made.Plain; state = step.Present } ∷ record { key = record { group = operators; kind = codes "ClusterServiceVersion"; namespace = codes "default"; name = codes "argo.v1.2.0" }; body = codes "body 5"; made = made.Csv (record { «package» = (Some (codes "argo")); version = codes "1.2.0"; owned = (record { name = codes "apps.argo.io"; version = codes "v1"; kind = codes "App" } ∷ []); needed = []; deployments = (codes "argo-operator" ∷ []); replaces = (Some (codes "argo.v1.0.0")); phase = csv.Nothing }); state = step.Created } ∷ []) }); owner = None; stamp = None; seen = 28 })); stamps = [] })

-- what is seen before write 30
abbrev pub view_30 : View
view_30 = record { namespace = codes "default"; length = 29; slots = slot_7 ∷ slot_19 ∷ slot_23 ∷ slot_22 ∷ slot_20 ∷ slot_28 ∷ slot_12 ∷ slot_29 ∷ slot_18 ∷ [] }

abbrev pub write_30 : Write
write_30 = record { by = writer.Installer; expect = 29; key = record { group = operators; kind = codes "InstallPlan"; namespace = codes "default"; name = codes "install-4" }; object = (Some (record { body = []; status = status.Plan (record { number = 4; manual = false; approved = false; phase = plan.Complete; cause = None; steps = (record { key = record { group = codes "apiextensions.k8s.io"; kind = codes "CustomResourceDefinition"; namespace = []; name = codes "apps.argo.io" }; body = codes "body 1"; made = made.Plain; state = step.Present } ∷ record { key = record { group = operators; kind = codes "ClusterServiceVersion"; namespace = codes "default"; name = codes "argo.v1.2.0" }; body = codes "body 5"; made = made.Csv (record { «package» = (Some (codes "argo")); version = codes "1.2.0"; owned = (record { name = codes "apps.argo.io"; version = codes "v1"; kind = codes "App" } ∷ []); needed = []; deployments = (codes "argo-operator" ∷ []); replaces = (Some (codes "argo.v1.0.0")); phase = csv.Nothing }); state = step.Created } ∷ []) }); owner = None; stamp = None; seen = 29 })) }

abbrev slot_31 : Key × Slot
slot_31 = (record { group = local; kind = codes "Resolution"; namespace = codes "default"; name = codes "current" }, record { version = 31; object = (Some (record { body = []; status = status.Resolution a_resolution; owner = None; stamp = None; seen = 30 })); stamps = [] })

abbrev slot_30 : Key × Slot
slot_30 = (record { group = operators; kind = codes "InstallPlan"; namespace = codes "default"; name = codes "install-4" }, record { version = 30; object = (Some (record { body = []; status = status.Plan (record { number = 4; manual = false; approved = false; phase = plan.Complete; cause = None; steps = (record { key = record { group = codes "apiextensions.k8s.io"; kind = codes "CustomResourceDefinition"; namespace = []; name = codes "apps.argo.io" }; body = codes "body 1"; made = made.Plain; state = step.Present } ∷ record { key = record { group = operators; kind = codes "ClusterServiceVersion"; namespace = codes "default"; name = codes "argo.v1.2.0" }; body = codes "body 5"; made = made.Csv (record { «package» = (Some (codes "argo")); version = codes "1.2.0"; owned = (record { name = codes "apps.argo.io"; version = codes "v1"; kind = codes "App" } ∷ []); needed = []; deployments = (codes "argo-operator" ∷ []); replaces = (Some (codes "argo.v1.0.0")); phase = csv.Nothing }); state = step.Created } ∷ []) }); owner = None; stamp = None; seen = 29 })); stamps = [] })

-- what is seen before write 32
abbrev pub view_32 : View
view_32 = record { namespace = codes "default"; length = 31; slots = slot_7 ∷ slot_19 ∷ slot_31 ∷ slot_22 ∷ slot_20 ∷ slot_28 ∷ slot_12 ∷ slot_30 ∷ slot_18 ∷ [] }

abbrev pub write_32 : Write
write_32 = record { by = writer.Phases; expect = 20; key = record { group = operators; kind = codes "ClusterServiceVersion"; namespace = codes "default"; name = codes "argo.v1.0.0" }; object = (Some (record { body = codes "body 2"; status = status.Csv (record { «package» = (Some (codes "argo")); version = codes "1.0.0"; owned = (record { name = codes "apps.argo.io"; version = codes "v1"; kind = codes "App" } ∷ []); needed = []; deployments = (codes "argo-operator" ∷ []); replaces = None; phase = csv.Replacing }); owner = None; stamp = None; seen = 31 })) }

abbrev slot_32 : Key × Slot
slot_32 = (record { group = operators; kind = codes "ClusterServiceVersion"; namespace = codes "default"; name = codes "argo.v1.0.0" }, record { version = 32; object = (Some (record { body = codes "body 2"; status = status.Csv (record { «package» = (Some (codes "argo")); version = codes "1.0.0"; owned = (record { name = codes "apps.argo.io"; version = codes "v1"; kind = codes "App" } ∷ []); needed = []; deployments = (codes "argo-operator" ∷ []); replaces = None; phase = csv.Replacing }); owner = None; stamp = None; seen = 31 })); stamps = (record { namespace = codes "default"; plan = 1; step = 1 } ∷ []) })

-- what is seen before write 33
abbrev pub view_33 : View
view_33 = record { namespace = codes "default"; length = 32; slots = slot_7 ∷ slot_19 ∷ slot_31 ∷ slot_22 ∷ slot_32 ∷ slot_28 ∷ slot_12 ∷ slot_30 ∷ slot_18 ∷ [] }

abbrev pub write_33 : Write
write_33 = record { by = writer.Phases; expect = 28; key = record { group = operators; kind = codes "ClusterServiceVersion"; namespace = codes "default"; name = codes "argo.v1.2.0" }; object = (Some (record { body = codes "body 5"; status = status.Csv (record { «package» = (Some (codes "argo")); version = codes "1.2.0"; owned = (record { name = codes "apps.argo.io"; version = codes "v1"; kind = codes "App" } ∷ []); needed = []; deployments = (codes "argo-operator" ∷ []); replaces = (Some (codes "argo.v1.0.0")); phase = csv.Pending }); owner = None; stamp = None; seen = 32 })) }

abbrev slot_33 : Key × Slot
slot_33 = (record { group = operators; kind = codes "ClusterServiceVersion"; namespace = codes "default"; name = codes "argo.v1.2.0" }, record { version = 33; object = (Some (record { body = codes "body 5"; status = status.Csv (record { «package» = (Some (codes "argo")); version = codes "1.2.0"; owned = (record { name = codes "apps.argo.io"; version = codes "v1"; kind = codes "App" } ∷ []); needed = []; deployments = (codes "argo-operator" ∷ []); replaces = (Some (codes "argo.v1.0.0")); phase = csv.Pending }); owner = None; stamp = None; seen = 32 })); stamps = (record { namespace = codes "default"; plan = 4; step = 1 } ∷ []) })

-- what is seen before write 34
abbrev pub view_34 : View
view_34 = record { namespace = codes "default"; length = 33; slots = slot_7 ∷ slot_19 ∷ slot_31 ∷ slot_22 ∷ slot_32 ∷ slot_33 ∷ slot_12 ∷ slot_30 ∷ slot_18 ∷ [] }

abbrev pub write_34 : Write
write_34 = record { by = writer.Phases; expect = 33; key = record { group = operators; kind = codes "ClusterServiceVersion"; namespace = codes "default"; name = codes "argo.v1.2.0" }; object = (Some (record { body = codes "body 5"; status = status.Csv (record { «package» = (Some (codes "argo")); version = codes "1.2.0"; owned = (record { name = codes "apps.argo.io"; version = codes "v1"; kind = codes "App" } ∷ []); needed = []; deployments = (codes "argo-operator" ∷ []); replaces = (Some (codes "argo.v1.0.0")); phase = csv.InstallReady }); owner = None; stamp = None; seen = 33 })) }

abbrev slot_34 : Key × Slot
slot_34 = (record { group = operators; kind = codes "ClusterServiceVersion"; namespace = codes "default"; name = codes "argo.v1.2.0" }, record { version = 34; object = (Some (record { body = codes "body 5"; status = status.Csv (record { «package» = (Some (codes "argo")); version = codes "1.2.0"; owned = (record { name = codes "apps.argo.io"; version = codes "v1"; kind = codes "App" } ∷ []); needed = []; deployments = (codes "argo-operator" ∷ []); replaces = (Some (codes "argo.v1.0.0")); phase = csv.InstallReady }); owner = None; stamp = None; seen = 33 })); stamps = (record { namespace = codes "default"; plan = 4; step = 1 } ∷ []) })

-- what is seen before write 35
abbrev pub view_35 : View
view_35 = record { namespace = codes "default"; length = 34; slots = slot_7 ∷ slot_19 ∷ slot_31 ∷ slot_22 ∷ slot_32 ∷ slot_34 ∷ slot_12 ∷ slot_30 ∷ slot_18 ∷ [] }

abbrev pub write_35 : Write
write_35 = record { by = writer.Phases; expect = 19; key = record { group = codes "apps"; kind = codes "Deployment"; namespace = codes "default"; name = codes "argo-operator" }; object = (Some (record { body = []; status = status.Deployment readiness.Waiting; owner = (Some (codes "argo.v1.2.0")); stamp = None; seen = 34 })) }

abbrev slot_35 : Key × Slot
slot_35 = (record { group = codes "apps"; kind = codes "Deployment"; namespace = codes "default"; name = codes "argo-operator" }, record { version = 35; object = (Some (record { body = []; status = status.Deployment readiness.Waiting; owner = (Some (codes "argo.v1.2.0")); stamp = None; seen = 34 })); stamps = [] })

-- what is seen before write 36
abbrev pub view_36 : View
view_36 = record { namespace = codes "default"; length = 35; slots = slot_7 ∷ slot_35 ∷ slot_31 ∷ slot_22 ∷ slot_32 ∷ slot_34 ∷ slot_12 ∷ slot_30 ∷ slot_18 ∷ [] }

abbrev pub write_36 : Write
write_36 = record { by = writer.Phases; expect = 34; key = record { group = operators; kind = codes "ClusterServiceVersion"; namespace = codes "default"; name = codes "argo.v1.2.0" }; object = (Some (record { body = codes "body 5"; status = status.Csv (record { «package» = (Some (codes "argo")); version = codes "1.2.0"; owned = (record { name = codes "apps.argo.io"; version = codes "v1"; kind = codes "App" } ∷ []); needed = []; deployments = (codes "argo-operator" ∷ []); replaces = (Some (codes "argo.v1.0.0")); phase = csv.Installing }); owner = None; stamp = None; seen = 35 })) }

abbrev slot_37 : Key × Slot
slot_37 = (record { group = codes "apps"; kind = codes "Deployment"; namespace = codes "default"; name = codes "argo-operator" }, record { version = 37; object = (Some (record { body = []; status = status.Deployment readiness.Ready; owner = (Some (codes "argo.v1.2.0")); stamp = None; seen = 36 })); stamps = [] })

abbrev slot_36 : Key × Slot
slot_36 = (record { group = operators; kind = codes "ClusterServiceVersion"; namespace = codes "default"; name = codes "argo.v1.2.0" }, record { version = 36; object = (Some (record { body = codes "body 5"; status = status.Csv (record { «package» = (Some (codes "argo")); version = codes "1.2.0"; owned = (record { name = codes "apps.argo.io"; version = codes "v1"; kind = codes "App" } ∷ []); needed = []; deployments = (codes "argo-operator" ∷ []); replaces = (Some (codes "argo.v1.0.0")); phase = csv.Installing }); owner = None; stamp = None; seen = 35 })); stamps = (record { namespace = codes "default"; plan = 4; step = 1 } ∷ []) })

-- what is seen before write 38
abbrev pub view_38 : View
view_38 = record { namespace = codes "default"; length = 37; slots = slot_7 ∷ slot_37 ∷ slot_31 ∷ slot_22 ∷ slot_32 ∷ slot_36 ∷ slot_12 ∷ slot_30 ∷ slot_18 ∷ [] }

abbrev pub write_38 : Write
write_38 = record { by = writer.Phases; expect = 36; key = record { group = operators; kind = codes "ClusterServiceVersion"; namespace = codes "default"; name = codes "argo.v1.2.0" }; object = (Some (record { body = codes "body 5"; status = status.Csv (record { «package» = (Some (codes "argo")); version = codes "1.2.0"; owned = (record { name = codes "apps.argo.io"; version = codes "v1"; kind = codes "App" } ∷ []); needed = []; deployments = (codes "argo-operator" ∷ []); replaces = (Some (codes "argo.v1.0.0")); phase = csv.Succeeded }); owner = None; stamp = None; seen = 37 })) }

abbrev slot_39 : Key × Slot
slot_39 = (record { group = local; kind = codes "Resolution"; namespace = codes "default"; name = codes "current" }, record { version = 39; object = (Some (record { body = []; status = status.Resolution a_resolution; owner = None; stamp = None; seen = 38 })); stamps = [] })

abbrev slot_38 : Key × Slot
slot_38 = (record { group = operators; kind = codes "ClusterServiceVersion"; namespace = codes "default"; name = codes "argo.v1.2.0" }, record { version = 38; object = (Some (record { body = codes "body 5"; status = status.Csv (record { «package» = (Some (codes "argo")); version = codes "1.2.0"; owned = (record { name = codes "apps.argo.io"; version = codes "v1"; kind = codes "App" } ∷ []); needed = []; deployments = (codes "argo-operator" ∷ []); replaces = (Some (codes "argo.v1.0.0")); phase = csv.Succeeded }); owner = None; stamp = None; seen = 37 })); stamps = (record { namespace = codes "default"; plan = 4; step = 1 } ∷ []) })

-- what is seen before write 40
abbrev pub view_40 : View
view_40 = record { namespace = codes "default"; length = 39; slots = slot_7 ∷ slot_37 ∷ slot_39 ∷ slot_22 ∷ slot_32 ∷ slot_38 ∷ slot_12 ∷ slot_30 ∷ slot_18 ∷ [] }

abbrev pub write_40 : Write
write_40 = record { by = writer.Phases; expect = 32; key = record { group = operators; kind = codes "ClusterServiceVersion"; namespace = codes "default"; name = codes "argo.v1.0.0" }; object = (Some (record { body = codes "body 2"; status = status.Csv (record { «package» = (Some (codes "argo")); version = codes "1.0.0"; owned = (record { name = codes "apps.argo.io"; version = codes "v1"; kind = codes "App" } ∷ []); needed = []; deployments = (codes "argo-operator" ∷ []); replaces = None; phase = csv.Deleting }); owner = None; stamp = None; seen = 39 })) }

abbrev slot_40 : Key × Slot
slot_40 = (record { group = operators; kind = codes "ClusterServiceVersion"; namespace = codes "default"; name = codes "argo.v1.0.0" }, record { version = 40; object = (Some (record { body = codes "body 2"; status = status.Csv (record { «package» = (Some (codes "argo")); version = codes "1.0.0"; owned = (record { name = codes "apps.argo.io"; version = codes "v1"; kind = codes "App" } ∷ []); needed = []; deployments = (codes "argo-operator" ∷ []); replaces = None; phase = csv.Deleting }); owner = None; stamp = None; seen = 39 })); stamps = (record { namespace = codes "default"; plan = 1; step = 1 } ∷ []) })

-- what is seen before write 41
abbrev pub view_41 : View
view_41 = record { namespace = codes "default"; length = 40; slots = slot_7 ∷ slot_37 ∷ slot_39 ∷ slot_22 ∷ slot_40 ∷ slot_38 ∷ slot_12 ∷ slot_30 ∷ slot_18 ∷ [] }

abbrev pub write_41 : Write
write_41 = record { by = writer.Phases; expect = 40; key = record { group = operators; kind = codes "ClusterServiceVersion"; namespace = codes "default"; name = codes "argo.v1.0.0" }; object = None }
