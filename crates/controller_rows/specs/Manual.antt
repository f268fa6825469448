-- The worked row manual: what a worker saw before each write of the installer and of phases, and the write. Made by scripts/rows_as_laws.py.
use Rattle.std.specs.Prelude.{◌≡◌, ℕ, ℤ, pos, true, false, List, [], ◌∷◌, Option, Some, None, slice_get, codes}
use Rattle.cluster_objects.specs.Kinds.{operators, local}
use Rattle.cluster_objects.specs.declared.keys.Key.{Key}
use Rattle.cluster_objects.specs.declared.objects.Status.TheVariants as status
use Rattle.cluster_objects.specs.declared.objects.Write.{Write}
use Rattle.cluster_objects.specs.declared.objects.Writer.TheVariants as writer
use Rattle.cluster_objects.specs.declared.plans.PlanPhase.TheVariants as plan
use Rattle.cluster_objects.specs.declared.plans.StepState.TheVariants as step
use Rattle.cluster_objects.specs.declared.statuses.CsvPhase.TheVariants as csv
use Rattle.cluster_objects.specs.declared.statuses.Made.TheVariants as made
use Rattle.cluster_objects.specs.declared.statuses.Readiness.TheVariants as readiness
use Rattle.cluster_objects.specs.declared.statuses.SubState.TheVariants as sub
use Rattle.cluster_history.specs.Views.{View}
use Rattle.cluster_history.specs.declared.slots.Slot.{Slot}
use Rattle.controller_rows.specs.First.{a_resolution}

abbrev slot_3 : Key × Slot
slot_3 = (record { group = local; kind = codes "Resolution"; namespace = codes "default"; name = codes "current" }, record { version = 3; object = (Some (record { body = []; status = status.Resolution a_resolution; owner = None; stamp = None; seen = 2 })); stamps = [] })

abbrev slot_1 : Key × Slot
slot_1 = (record { group = operators; kind = codes "CatalogSource"; namespace = codes "olm"; name = codes "cat" }, record { version = 1; object = (Some (record { body = codes "body 0"; status = status.Catalog (record { priority = pos 0 }); owner = None; stamp = None; seen = 0 })); stamps = [] })

abbrev slot_6 : Key × Slot
slot_6 = (record { group = operators; kind = codes "InstallPlan"; namespace = codes "default"; name = codes "install-1" }, record { version = 6; object = (Some (record { body = []; status = status.Plan (record { number = 1; manual = true; approved = true; phase = plan.RequiresApproval; cause = None; steps = (record { key = record { group = codes "apiextensions.k8s.io"; kind = codes "CustomResourceDefinition"; namespace = []; name = codes "apps.argo.io" }; body = codes "body 1"; made = made.Plain; state = step.Unknown } ∷ record { key = record { group = operators; kind = codes "ClusterServiceVersion"; namespace = codes "default"; name = codes "argo.v1.0.0" }; body = codes "body 2"; made = made.Csv (record { «package» = (Some (codes "argo")); version = codes "1.0.0"; owned = (record { name = codes "apps.argo.io"; version = codes "v1"; kind = codes "App" } ∷ []); needed = []; deployments = (codes "argo-operator" ∷ []); replaces = None; phase = csv.Nothing }); state = step.Unknown } ∷ []) }); owner = None; stamp = None; seen = 5 })); stamps = [] })

abbrev slot_5 : Key × Slot
slot_5 = (record { group = operators; kind = codes "Subscription"; namespace = codes "default"; name = codes "argo" }, record { version = 5; object = (Some (record { body = codes "body 3"; status = status.Subscription (record { spec = record { «package» = codes "argo"; channel = None; source = codes "cat"; source_namespace = codes "olm"; starting = None; manual = true }; state = sub.UpgradePending }); owner = None; stamp = None; seen = 4 })); stamps = [] })

-- what is seen before write 7
abbrev pub view_7 : View
view_7 = record { namespace = codes "default"; length = 6; slots = slot_3 ∷ slot_1 ∷ slot_6 ∷ slot_5 ∷ [] }

abbrev pub write_7 : Write
write_7 = record { by = writer.Installer; expect = 6; key = record { group = operators; kind = codes "InstallPlan"; namespace = codes "default"; name = codes "install-1" }; object = (Some (record { body = []; status = status.Plan (record { number = 1; manual = true; approved = true; phase = plan.Installing; cause = None; steps = (record { key = record { group = codes "apiextensions.k8s.io"; kind = codes "CustomResourceDefinition"; namespace = []; name = codes "apps.argo.io" }; body = codes "body 1"; made = made.Plain; state = step.Unknown } ∷ record { key = record { group = operators; kind = codes "ClusterServiceVersion"; namespace = codes "default"; name = codes "argo.v1.0.0" }; body = codes "body 2"; made = made.Csv (record { «package» = (Some (codes "argo")); version = codes "1.0.0"; owned = (record { name = codes "apps.argo.io"; version = codes "v1"; kind = codes "App" } ∷ []); needed = []; deployments = (codes "argo-operator" ∷ []); replaces = None; phase = csv.Nothing }); state = step.Unknown } ∷ []) }); owner = None; stamp = None; seen = 6 })) }

abbrev slot_7 : Key × Slot
slot_7 = (record { group = operators; kind = codes "InstallPlan"; namespace = codes "default"; name = codes "install-1" }, record { version = 7; object = (Some (record { body = []; status = status.Plan (record { number = 1; manual = true; approved = true; phase = plan.Installing; cause = None; steps = (record { key = record { group = codes "apiextensions.k8s.io"; kind = codes "CustomResourceDefinition"; namespace = []; name = codes "apps.argo.io" }; body = codes "body 1"; made = made.Plain; state = step.Unknown } ∷ record { key = record { group = operators; kind = codes "ClusterServiceVersion"; namespace = codes "default"; name = codes "argo.v1.0.0" }; body = codes "body 2"; made = made.Csv (record { «package» = (Some (codes "argo")); version = codes "1.0.0"; owned = (record { name = codes "apps.argo.io"; version = codes "v1"; kind = codes "App" } ∷ []); needed = []; deployments = (codes "argo-operator" ∷ []); replaces = None; phase = csv.Nothing }); state = step.Unknown } ∷ []) }); owner = None; stamp = None; seen = 6 })); stamps = [] })

-- what is seen before write 8
abbrev pub view_8 : View
view_8 = record { namespace = codes "default"; length = 7; slots = slot_3 ∷ slot_1 ∷ slot_7 ∷ slot_5 ∷ [] }

abbrev pub write_8 : Write
write_8 = record { by = writer.Installer; expect = 7; key = record { group = operators; kind = codes "InstallPlan"; namespace = codes "default"; name = codes "install-1" }; object = (Some (record { body = []; status = status.Plan (record { number = 1; manual = true; approved = true; phase = plan.Installing; cause = None; steps = (record { key = record { group = codes "apiextensions.k8s.io"; kind = codes "CustomResourceDefinition"; namespace = []; name = codes "apps.argo.io" }; body = codes "body 1"; made = made.Plain; state = step.Aimed 0 } ∷ record { key = record { group = operators; kind = codes "ClusterServiceVersion"; namespace = codes "default"; name = codes "argo.v1.0.0" }; body = codes "body 2"; made = made.Csv (record { «package» = (Some (codes "argo")); version = codes "1.0.0"; owned = (record { name = codes "apps.argo.io"; version = codes "v1"; kind = codes "App" } ∷ []); needed = []; deployments = (codes "argo-operator" ∷ []); replaces = None; phase = csv.Nothing }); state = step.Unknown } ∷ []) }); owner = None; stamp = None; seen = 7 })) }

abbrev slot_8 : Key × Slot
slot_8 = (record { group = operators; kind = codes "InstallPlan"; namespace = codes "default"; name = codes "install-1" }, record { version = 8; object = (Some (record { body = []; status = status.Plan (record { number = 1; manual = true; approved = true; phase = plan.Installing; cause = None; steps = (record { key = record { group = codes "apiextensions.k8s.io"; kind = codes "CustomResourceDefinition"; namespace = []; name = codes "apps.argo.io" }; body = codes "body 1"; made = made.Plain; state = step.Aimed 0 } ∷ record { key = record { group = operators; kind = codes "ClusterServiceVersion"; namespace = codes "default"; name = codes "argo.v1.0.0" }; body = codes "body 2"; made = made.Csv (record { «package» = (Some (codes "argo")); version = codes "1.0.0"; owned = (record { name = codes "apps.argo.io"; version = codes "v1"; kind = codes "App" } ∷ []); needed = []; deployments = (codes "argo-operator" ∷ []); replaces = None; phase = csv.Nothing }); state = step.Unknown } ∷ []) }); owner = None; stamp = None; seen = 7 })); stamps = [] })

-- what is seen before write 9
abbrev pub view_9 : View
view_9 = record { namespace = codes "default"; length = 8; slots = slot_3 ∷ slot_1 ∷ slot_8 ∷ slot_5 ∷ [] }

abbrev pub write_9 : Write
write_9 = record { by = writer.Installer; expect = 0; key = record { group = codes "apiextensions.k8s.io"; kind = codes "CustomResourceDefinition"; namespace = []; name = codes "apps.argo.io" }; object = (Some (record { body = codes "body 1"; status = status.Plain; owner = None; stamp = (Some (record { namespace = codes "default"; plan = 1; step = 0 })); seen = 8 })) }

abbrev slot_9 : Key × Slot
slot_9 = (record { group = codes "apiextensions.k8s.io"; kind = codes "CustomResourceDefinition"; namespace = []; name = codes "apps.argo.io" }, record { version = 9; object = (Some (record { body = codes "body 1"; status = status.Plain; owner = None; stamp = (Some (record { namespace = codes "default"; plan = 1; step = 0 })); seen = 8 })); stamps = (record { namespace = codes "default"; plan = 1; step = 0 } ∷ []) })

-- what is seen before write 10
abbrev pub view_10 : View
view_10 = record { namespace = codes "default"; length = 9; slots = slot_9 ∷ slot_3 ∷ slot_1 ∷ slot_8 ∷ slot_5 ∷ [] }

abbrev pub write_10 : Write
write_10 = record { by = writer.Installer; expect = 8; key = record { group = operators; kind = codes "InstallPlan"; namespace = codes "default"; name = codes "install-1" }; object = (Some (record { body = []; status = status.Plan (record { number = 1; manual = true; approved = true; phase = plan.Installing; cause = None; steps = (record { key = record { group = codes "apiextensions.k8s.io"; kind = codes "CustomResourceDefinition"; namespace = []; name = codes "apps.argo.io" }; body = codes "body 1"; made = made.Plain; state = step.Created } ∷ record { key = record { group = operators; kind = codes "ClusterServiceVersion"; namespace = codes "default"; name = codes "argo.v1.0.0" }; body = codes "body 2"; made = made.Csv (record { «package» = (Some (codes "argo")); version = codes "1.0.0"; owned = (record { name = codes "apps.argo.io"; version = codes "v1"; kind = codes "App" } ∷ []); needed = []; deployments = (codes "argo-operator" ∷ []); replaces = None; phase = csv.Nothing }); state = step.Unknown } ∷ []) }); owner = None; stamp = None; seen = 9 })) }

abbrev slot_10 : Key × Slot
slot_10 = (record { group = operators; kind = codes "InstallPlan"; namespace = codes "default"; name = codes "install-1" }, record { version = 10; object = (Some (record { body = []; status = status.Plan (record { number = 1; manual = true; approved = true; phase = plan.Installing; cause = None; steps = (record { key = record { group = codes "apiextensions.k8s.io"; kind = codes "CustomResourceDefinition"; namespace = []; name = codes "apps.argo.io" }; body = codes "body 1"; made = made.Plain; state = step.Created } ∷ record { key = record { group = operators; kind = codes "ClusterServiceVersion"; namespace = codes "default"; name = codes "argo.v1.0.0" }; body = codes "body 2"; made = made.Csv (record { «package» = (Some (codes "argo")); version = codes "1.0.0"; owned = (record { name = codes "apps.argo.io"; version = codes "v1"; kind = codes "App" } ∷ []); needed = []; deployments = (codes "argo-operator" ∷ []); replaces = None; phase = csv.Nothing }); state = step.Unknown } ∷ []) }); owner = None; stamp = None; seen = 9 })); stamps = [] })

-- what is seen before write 11
abbrev pub view_11 : View
view_11 = record { namespace = codes "default"; length = 10; slots = slot_9 ∷ slot_3 ∷ slot_1 ∷ slot_10 ∷ slot_5 ∷ [] }

abbrev pub write_11 : Write
write_11 = record { by = writer.Installer; expect = 10; key = record { group = operators; kind = codes "InstallPlan"; namespace = codes "default"; name = codes "install-1" }; object = (Some (record { body = []; status = status.Plan (record { number = 1; manual = true; approved = true; phase = plan.Installing; cause = None; steps = (record { key = record { group = codes "apiextensions.k8s.io"; kind = codes "CustomResourceDefinition"; namespace = []; name = codes "apps.argo.io" }; body = codes "body 1"; made = made.Plain; state = step.Created } ∷ record { key = record { group = operators; kind = codes "ClusterServiceVersion"; namespace = codes "default"; name = codes "argo.v1.0.0" }; body = codes "body 2"; made = made.Csv (record { «package» = (Some (codes "argo")); version = codes "1.0.0"; owned = (record { name = codes "apps.argo.io"; version = codes "v1"; kind = codes "App" } ∷ []); needed = []; deployments = (codes "argo-operator" ∷ []); replaces = None; phase = csv.Nothing }); state = step.Aimed 0 } ∷ []) }); owner = None; stamp = None; seen = 10 })) }

abbrev slot_11 : Key × Slot
slot_11 = (record { group = operators; kind = codes "InstallPlan"; namespace = codes "default"; name = codes "install-1" }, record { version = 11; object = (Some (record { body = []; status = status.Plan (record { number = 1; manual = true; approved = true; phase = plan.Installing; cause = None; steps = (record { key = record { group = codes "apiextensions.k8s.io"; kind = codes "CustomResourceDefinition"; namespace = []; name = codes "apps.argo.io" }; body = codes "body 1"; made = made.Plain; state = step.Created } ∷ record { key = record { group = operators; kind = codes "ClusterServiceVersion"; namespace = codes "default"; name = codes "argo.v1.0.0" }; body = codes "body 2"; made = made.Csv (record { «package» = (Some (codes "argo")); version = codes "1.0.0"; owned = (record { name = codes "apps.argo.io"; version = codes "v1"; kind = codes "App" } ∷ []); needed = []; deployments = (codes "argo-operator" ∷ []); replaces = None; phase = csv.Nothing }); state = step.Aimed 0 } ∷ []) }); owner = None; stamp = None; seen = 10 })); stamps = [] })

-- what is seen before write 12
abbrev pub view_12 : View
view_12 = record { namespace = codes "default"; length = 11; slots = slot_9 ∷ slot_3 ∷ slot_1 ∷ slot_11 ∷ slot_5 ∷ [] }

abbrev pub write_12 : Write
write_12 = record { by = writer.Installer; expect = 0; key = record { group = operators; kind = codes "ClusterServiceVersion"; namespace = codes "default"; name = codes "argo.v1.0.0" }; object = (Some (record { body = codes "body 2"; status = status.Csv (record { «package» = (Some (codes "argo")); version = codes "1.0.0"; owned = (record { name = codes "apps.argo.io"; version = codes "v1"; kind = codes "App" } ∷ []); needed = []; deployments = (codes "argo-operator" ∷ []); replaces = None; phase = csv.Nothing }); owner = None; stamp = (Some (record { namespace = codes "default"; plan = 1; step = 1 })); seen = 11 })) }

abbrev slot_12 : Key × Slot
slot_12 = (record { group = operators; kind = codes "ClusterServiceVersion"; namespace = codes "default"; name = codes "argo.v1.0.0" }, record { version = 12; object = (Some (record { body = codes "body 2"; status = status.Csv (record { «package» = (Some (codes "argo")); version = codes "1.0.0"; owned = (record { name = codes "apps.argo.io"; version = codes "v1"; kind = codes "App" } ∷ []); needed = []; deployments = (codes "argo-operator" ∷ []); replaces = None; phase = csv.Nothing }); owner = None; stamp = (Some (record { namespace = codes "default"; plan = 1; step = 1 })); seen = 11 })); stamps = (record { namespace = codes "default"; plan = 1; step = 1 } ∷ []) })

-- what is seen before write 13
abbrev pub view_13 : View
view_13 = record { namespace = codes "default"; length = 12; slots = slot_9 ∷ slot_3 ∷ slot_1 ∷ slot_12 ∷ slot_11 ∷ slot_5 ∷ [] }

abbrev pub write_13 : Write
write_13 = record { by = writer.Installer; expect = 11; key = record { group = operators; kind = codes "InstallPlan"; namespace = codes "default"; name = codes "install-1" }; object = (Some (record { body = []; status = status.Plan (record { number = 1; manual = true; approved = true; phase = plan.Installing; cause = None; steps = (record { key = record { group = codes "apiextensions.k8s.io"; kind = codes "CustomResourceDefinition"; namespace = []; name = codes "apps.argo.io" }; body = codes "body 1"; made = made.Plain; state = step.Created } ∷ record { key = record { group = operators; kind = codes "ClusterServiceVersion"; namespace = codes "default"; name = codes "argo.v1.0.0" }; body = codes "body 2"; made = made.Csv (record { «package» = (Some (codes "argo")); version = codes "1.0.0"; owned = (record { name = codes "apps.argo.io"; version = codes "v1"; kind = codes "App" } ∷ []); needed = []; deployments = (codes "argo-operator" ∷ []); replaces = None; phase = csv.Nothing }); state = step.Created } ∷ []) }); owner = None; stamp = None; seen = 12 })) }

abbrev slot_13 : Key × Slot
slot_13 = (record { group = operators; kind = codes "InstallPlan"; namespace = codes "default"; name = codes "install-1" }, record { version = 13; object = (Some (record { body = []; status = status.Plan (record { number = 1; manual = true; approved = true; phase = plan.Installing; cause = None; steps = (record { key = record { group = codes "apiextensions.k8s.io"; kind = codes "CustomResourceDefinition"; namespace = []; name = codes "apps.argo.io" }; body = codes "body 1"; made = made.Plain; state = step.Created } ∷ record { key = record { group = operators; kind = codes "ClusterServiceVersion"; namespace = codes "default"; name = codes "argo.v1.0.0" }; body = codes "body 2"; made = made.Csv (record { «package» = (Some (codes "argo")); version = codes "1.0.0"; owned = (record { name = codes "apps.argo.io"; version = codes "v1"; kind = codes "App" } ∷ []); needed = []; deployments = (codes "argo-operator" ∷ []); replaces = None; phase = csv.Nothing }); state = step.Created } ∷ []) }); owner = None; stamp = None; seen = 12 })); stamps = [] })

-- what is seen before write 14
abbrev pub view_14 : View
view_14 = record { namespace = codes "default"; length = 13; slots = slot_9 ∷ slot_3 ∷ slot_1 ∷ slot_12 ∷ slot_13 ∷ slot_5 ∷ [] }

abbrev pub write_14 : Write
write_14 = record { by = writer.Installer; expect = 13; key = record { group = operators; kind = codes "InstallPlan"; namespace = codes "default"; name = codes "install-1" }; object = (Some (record { body = []; status = status.Plan (record { number = 1; manual = true; approved = true; phase = plan.Complete; cause = None; steps = (record { key = record { group = codes "apiextensions.k8s.io"; kind = codes "CustomResourceDefinition"; namespace = []; name = codes "apps.argo.io" }; body = codes "body 1"; made = made.Plain; state = step.Created } ∷ record { key = record { group = operators; kind = codes "ClusterServiceVersion"; namespace = codes "default"; name = codes "argo.v1.0.0" }; body = codes "body 2"; made = made.Csv (record { «package» = (Some (codes "argo")); version = codes "1.0.0"; owned = (record { name = codes "apps.argo.io"; version = codes "v1"; kind = codes "App" } ∷ []); needed = []; deployments = (codes "argo-operator" ∷ []); replaces = None; phase = csv.Nothing }); state = step.Created } ∷ []) }); owner = None; stamp = None; seen = 13 })) }

abbrev slot_15 : Key × Slot
slot_15 = (record { group = local; kind = codes "Resolution"; namespace = codes "default"; name = codes "current" }, record { version = 15; object = (Some (record { body = []; status = status.Resolution a_resolution; owner = None; stamp = None; seen = 14 })); stamps = [] })

abbrev slot_14 : Key × Slot
slot_14 = (record { group = operators; kind = codes "InstallPlan"; namespace = codes "default"; name = codes "install-1" }, record { version = 14; object = (Some (record { body = []; status = status.Plan (record { number = 1; manual = true; approved = true; phase = plan.Complete; cause = None; steps = (record { key = record { group = codes "apiextensions.k8s.io"; kind = codes "CustomResourceDefinition"; namespace = []; name = codes "apps.argo.io" }; body = codes "body 1"; made = made.Plain; state = step.Created } ∷ record { key = record { group = operators; kind = codes "ClusterServiceVersion"; namespace = codes "default"; name = codes "argo.v1.0.0" }; body = codes "body 2"; made = made.Csv (record { «package» = (Some (codes "argo")); version = codes "1.0.0"; owned = (record { name = codes "apps.argo.io"; version = codes "v1"; kind = codes "App" } ∷ []); needed = []; deployments = (codes "argo-operator" ∷ []); replaces = None; phase = csv.Nothing }); state = step.Created } ∷ []) }); owner = None; stamp = None; seen = 13 })); stamps = [] })

-- what is seen before write 16
abbrev pub view_16 : View
view_16 = record { namespace = codes "default"; length = 15; slots = slot_9 ∷ slot_15 ∷ slot_1 ∷ slot_12 ∷ slot_14 ∷ slot_5 ∷ [] }

abbrev pub write_16 : Write
write_16 = record { by = writer.Phases; expect = 12; key = record { group = operators; kind = codes "ClusterServiceVersion"; namespace = codes "default"; name = codes "argo.v1.0.0" }; object = (Some (record { body = codes "body 2"; status = status.Csv (record { «package» = (Some (codes "argo")); version = codes "1.0.0"; owned = (record { name = codes "apps.argo.io"; version = codes "v1"; kind = codes "App" } ∷ []); needed = []; deployments = (codes "argo-operator" ∷ []); replaces = None; phase = csv.Pending }); owner = None; stamp = None; seen = 15 })) }

abbrev slot_16 : Key × Slot
slot_16 = (record { group = operators; kind = codes "ClusterServiceVersion"; namespace = codes "default"; name = codes "argo.v1.0.0" }, record { version = 16; object = (Some (record { body = codes "body 2"; status = status.Csv (record { «package» = (Some (codes "argo")); version = codes "1.0.0"; owned = (record { name = codes "apps.argo.io"; version = codes "v1"; kind = codes "App" } ∷ []); needed = []; deployments = (codes "argo-operator" ∷ []); replaces = None; phase = csv.Pending }); owner = None; stamp = None; seen = 15 })); stamps = (record { namespace = codes "default"; plan = 1; step = 1 } ∷ []) })

-- what is seen before write 17
abbrev pub view_17 : View
view_17 = record { namespace = codes "default"; length = 16; slots = slot_9 ∷ slot_15 ∷ slot_1 ∷ slot_16 ∷ slot_14 ∷ slot_5 ∷ [] }

abbrev pub write_17 : Write
write_17 = record { by = writer.Phases; expect = 16; key = record { group = operators; kind = codes "ClusterServiceVersion"; namespace = codes "default"; name = codes "argo.v1.0.0" }; object = (Some (record { body = codes "body 2"; status = status.Csv (record { «package» = (Some (codes "argo")); version = codes "1.0.0"; owned = (record { name = codes "apps.argo.io"; version = codes "v1"; kind = codes "App" } ∷ []); needed = []; deployments = (codes "argo-operator" ∷ []); replaces = None; phase = csv.InstallReady }); owner = None; stamp = None; seen = 16 })) }

abbrev slot_17 : Key × Slot
slot_17 = (record { group = operators; kind = codes "ClusterServiceVersion"; namespace = codes "default"; name = codes "argo.v1.0.0" }, record { version = 17; object = (Some (record { body = codes "body 2"; status = status.Csv (record { «package» = (Some (codes "argo")); version = codes "1.0.0"; owned = (record { name = codes "apps.argo.io"; version = codes "v1"; kind = codes "App" } ∷ []); needed = []; deployments = (codes "argo-operator" ∷ []); replaces = None; phase = csv.InstallReady }); owner = None; stamp = None; seen = 16 })); stamps = (record { namespace = codes "default"; plan = 1; step = 1 } ∷ []) })

-- what is seen before write 18
abbrev pub view_18 : View
view_18 = record { namespace = codes "default"; length = 17; slots = slot_9 ∷ slot_15 ∷ slot_1 ∷ slot_17 ∷ slot_14 ∷ slot_5 ∷ [] }

abbrev pub write_18 : Write
write_18 = record { by = writer.Phases; expect = 0; key = record { group = codes "apps"; kind = codes "Deployment"; namespace = codes "default"; name = codes "argo-operator" }; object = (Some (record { body = []; status = status.Deployment readiness.Waiting; owner = (Some (codes "argo.v1.0.0")); stamp = None; seen = 17 })) }

abbrev slot_18 : Key × Slot
slot_18 = (record { group = codes "apps"; kind = codes "Deployment"; namespace = codes "default"; name = codes "argo-operator" }, record { version = 18; object = (Some (record { body = []; status = status.Deployment readiness.Waiting; owner = (Some (codes "argo.v1.0.0")); stamp = None; seen = 17 })); stamps = [] })

-- what is seen before write 19
abbrev pub view_19 : View
view_19 = record { namespace = codes "default"; length = 18; slots = slot_9 ∷ slot_18 ∷ slot_15 ∷ slot_1 ∷ slot_17 ∷ slot_14 ∷ slot_5 ∷ [] }

abbrev pub write_19 : Write
write_19 = record { by = writer.Phases; expect = 17; key = record { group = operators; kind = codes "ClusterServiceVersion"; namespace = codes "default"; name = codes "argo.v1.0.0" }; object = (Some (record { body = codes "body 2"; status = status.Csv (record { «package» = (Some (codes "argo")); version = codes "1.0.0"; owned = (record { name = codes "apps.argo.io"; version = codes "v1"; kind = codes "App" } ∷ []); needed = []; deployments = (codes "argo-operator" ∷ []); replaces = None; phase = csv.Installing }); owner = None; stamp = None; seen = 18 })) }
