-- The worked row forward: what a worker saw before each write of the installer and of phases, and the write. Made by scripts/rows_as_laws.py.
use Rattle.std.specs.Prelude.{◌≡◌, ℕ, ℤ, pos, true, false, List, [], ◌∷◌, Option, Some, None, slice_get, codes}
use Rattle.cluster_objects.specs.Kinds.{operators, local}
use Rattle.cluster_objects.specs.declared.keys.Key.{Key}
use Rattle.cluster_objects.specs.declared.objects.Status.TheVariants as status
use Rattle.cluster_objects.specs.declared.objects.Write.{Write}
use Rattle.cluster_objects.specs.declared.objects.Writer.TheVariants as writer
use Rattle.cluster_objects.specs.declared.plans.PlanPhase.TheVariants as plan
use Rattle.cluster_objects.specs.declared.plans.StepState.TheVariants as step
use Rattle.cluster_objects.specs.declared.statuses.CsvPhase.TheVariants as csv
use Rattle.cluster_objects.specs.declared.statuses.Made.TheVariants as made
use Rattle.cluster_objects.specs.declared.statuses.Readiness.TheVariants as readiness
use Rattle.cluster_objects.specs.declared.statuses.SubState.TheVariants as sub
use Rattle.cluster_history.specs.Views.{View}
use Rattle.cluster_history.specs.declared.slots.Slot.{Slot}
use Rattle.controller_rows.specs.First.{a_resolution}

abbrev slot_3 : Key × Slot
slot_3 = (record { group = local; kind = codes "Resolution"; namespace = codes "default"; name = codes "current" }, record { version = 3; object = (Some (record { body = []; status = status.Resolution a_resolution; owner = None; stamp = None; seen = 2 })); stamps = [] })

abbrev slot_1 : Key × Slot
slot_1 = (record { group = operators; kind = codes "CatalogSource"; namespace = codes "olm"; name = codes "cat" }, record { version = 1; object = (Some (record { body = codes "body 0"; status = status.Catalog (record { priority = pos 0 }); owner = None; stamp = None; seen = 0 })); stamps = [] })

abbrev slot_4 : Key × Slot
slot_4 = (record { group = operators; kind = codes "InstallPlan"; namespace = codes "default"; name = codes "install-1" }, record { version = 4; object = (Some (record { body = []; status = status.Plan (record { number = 1; manual = false; approved = false; phase = plan.Planning; cause = None; steps = (record { key = record { group = codes "apiextensions.k8s.io"; kind = codes "CustomResourceDefinition"; namespace = []; name = codes "apps.argo.io" }; body = codes "body 1"; made = made.Plain; state = step.Unknown } ∷ record { key = record { group = operators; kind = codes "ClusterServiceVersion"; namespace = codes "default"; name = codes "argo.v1.0.0" }; body = codes "body 2"; made = made.Csv (record { «package» = (Some (codes "argo")); version = codes "1.0.0"; owned = (record { name = codes "apps.argo.io"; version = codes "v1"; kind = codes "App" } ∷ []); needed = []; deployments = (codes "argo-operator" ∷ []); replaces = None; phase = csv.Nothing }); state = step.Unknown } ∷ []) }); owner = None; stamp = None; seen = 3 })); stamps = [] })

abbrev slot_2 : Key × Slot
slot_2 = (record { group = operators; kind = codes "Subscription"; namespace = codes "default"; name = codes "argo" }, record { version = 2; object = (Some (record { body = codes "body 3"; status = status.Subscription (record { spec = record { «package» = codes "argo"; channel = None; source = codes "cat"; source_namespace = codes "olm"; starting = None; manual = false }; state = sub.Nothing }); owner = None; stamp = None; seen = 1 })); stamps = [] })

-- what is seen before write 5
abbrev pub view_5 : View
view_5 = record { namespace = codes "default"; length = 4; slots = slot_3 ∷ slot_1 ∷ slot_4 ∷ slot_2 ∷ [] }

abbrev pub write_5 : Write
write_5 = record { by = writer.Installer; expect = 4; key = record { group = operators; kind = codes "InstallPlan"; namespace = codes "default"; name = codes "install-1" }; object = (Some (record { body = []; status = status.Plan (record { number = 1; manual = false; approved = false; phase = plan.Installing; cause = None; steps = (record { key = record { group = codes "apiextensions.k8s.io"; kind = codes "CustomResourceDefinition"; namespace = []; name = codes "apps.argo.io" }; body = codes "body 1"; made = made.Plain; state = step.Unknown } ∷ record { key = record { group = operators; kind = codes "ClusterServiceVersion"; namespace = codes "default"; name = codes "argo.v1.0.0" }; body = codes "body 2"; made = made.Csv (record { «package» = (Some (codes "argo")); version = codes "1.0.0"; owned = (record { name = codes "apps.argo.io"; version = codes "v1"; kind = codes "App" } ∷ []); needed = []; deployments = (codes "argo-operator" ∷ []); replaces = None; phase = csv.Nothing }); state = step.Unknown } ∷ []) }); owner = None; stamp = None; seen = 4 })) }

abbrev slot_5 : Key × Slot
slot_5 = (record { group = operators; kind = codes "InstallPlan"; namespace = codes "default"; name = codes "install-1" }, record { version = 5; object = (Some (record { body = []; status = status.Plan (record { number = 1; manual = false; approved = false; phase = plan.Installing; cause = None; steps = (record { key = record { group = codes "apiextensions.k8s.io"; kind = codes "CustomResourceDefinition"; namespace = []; name = codes "apps.argo.io" }; body = codes "body 1"; made = made.Plain; state = step.Unknown } ∷ record { key = record { group = operators; kind = codes "ClusterServiceVersion"; namespace = codes "default"; name = codes "argo.v1.0.0" }; body = codes "body 2"; made = made.Csv (record { «package» = (Some (codes "argo")); version = codes "1.0.0"; owned = (record { name = codes "apps.argo.io"; version = codes "v1"; kind = codes "App" } ∷ []); needed = []; deployments = (codes "argo-operator" ∷ []); replaces = None; phase = csv.Nothing }); state = step.Unknown } ∷ []) }); owner = None; stamp = None; seen = 4 })); stamps = [] })

-- what is seen before write 6
abbrev pub view_6 : View
view_6 = record { namespace = codes "default"; length = 5; slots = slot_3 ∷ slot_1 ∷ slot_5 ∷ slot_2 ∷ [] }

abbrev pub write_6 : Write
write_6 = record { by = writer.Installer; expect = 5; key = record { group = operators; kind = codes "InstallPlan"; namespace = codes "default"; name = codes "install-1" }; object = (Some (record { body = []; status = status.Plan (record { number = 1; manual = false; approved = false; phase = plan.Installing; cause = None; steps = (record { key = record { group = codes "apiextensions.k8s.io"; kind = codes "CustomResourceDefinition"; namespace = []; name = codes "apps.argo.io" }; body = codes "body 1"; made = made.Plain; state = step.Aimed 0 } ∷ record { key = record { group = operators; kind = codes "ClusterServiceVersion"; namespace = codes "default"; name = codes "argo.v1.0.0" }; body = codes "body 2"; made = made.Csv (record { «package» = (Some (codes "argo")); version = codes "1.0.0"; owned = (record { name = codes "apps.argo.io"; version = codes "v1"; kind = codes "App" } ∷ []); needed = []; deployments = (codes "argo-operator" ∷ []); replaces = None; phase = csv.Nothing }); state = step.Unknown } ∷ []) }); owner = None; stamp = None; seen = 5 })) }

abbrev slot_6 : Key × Slot
slot_6 = (record { group = operators; kind = codes "InstallPlan"; namespace = codes "default"; name = codes "install-1" }, record { version = 6; object = (Some (record { body = []; status = status.Plan (record { number = 1; manual = false; approved = false; phase = plan.Installing; cause = None; steps = (record { key = record { group = codes "apiextensions.k8s.io"; kind = codes "CustomResourceDefinition"; namespace = []; name = codes "apps.argo.io" }; body = codes "body 1"; made = made.Plain; state = step.Aimed 0 } ∷ record { key = record { group = operators; kind = codes "ClusterServiceVersion"; namespace = codes "default"; name = codes "argo.v1.0.0" }; body = codes "body 2"; made = made.Csv (record { «package» = (Some (codes "argo")); version = codes "1.0.0"; owned = (record { name = codes "apps.argo.io"; version = codes "v1"; kind = codes "App" } ∷ []); needed = []; deployments = (codes "argo-operator" ∷ []); replaces = None; phase = csv.Nothing }); state = step.Unknown } ∷ []) }); owner = None; stamp = None; seen = 5 })); stamps = [] })

-- what is seen before write 7
abbrev pub view_7 : View
view_7 = record { namespace = codes "default"; length = 6; slots = slot_3 ∷ slot_1 ∷ slot_6 ∷ slot_2 ∷ [] }

abbrev pub write_7 : Write
write_7 = record { by = writer.Installer; expect = 0; key = record { group = codes "apiextensions.k8s.io"; kind = codes "CustomResourceDefinition"; namespace = []; name = codes "apps.argo.io" }; object = (Some (record { body = codes "body 1"; status = status.Plain; owner = None; stamp = (Some (record { namespace = codes "default"; plan = 1; step = 0 })); seen = 6 })) }

abbrev slot_7 : Key × Slot
slot_7 = (record { group = codes "apiextensions.k8s.io"; kind = codes "CustomResourceDefinition"; namespace = []; name = codes "apps.argo.io" }, record { version = 7; object = (Some (record { body = codes "body 1"; status = status.Plain; owner = None; stamp = (Some (record { namespace = codes "default"; plan = 1; step = 0 })); seen = 6 })); stamps = (record { namespace = codes "default"; plan = 1; step = 0 } ∷ []) })

-- what is seen before write 8
abbrev pub view_8 : View
view_8 = record { namespace = codes "default"; length = 7; slots = slot_7 ∷ slot_3 ∷ slot_1 ∷ slot_6 ∷ slot_2 ∷ [] }

abbrev pub write_8 : Write
write_8 = record { by = writer.Installer; expect = 6; key = record { group = operators; kind = codes "InstallPlan"; namespace = codes "default"; name = codes "install-1" }; object = (Some (record { body = []; status = status.Plan (record { number = 1; manual = false; approved = false; phase = plan.Installing; cause = None; steps = (record { key = record { group = codes "apiextensions.k8s.io"; kind = codes "CustomResourceDefinition"; namespace = []; name = codes "apps.argo.io" }; body = codes "body 1"; made = made.Plain; state = step.Created } ∷ record { key = record { group = operators; kind = codes "ClusterServiceVersion"; namespace = codes "default"; name = codes "argo.v1.0.0" }; body = codes "body 2"; made = made.Csv (record { «package» = (Some (codes "argo")); version = codes "1.0.0"; owned = (record { name = codes "apps.argo.io"; version = codes "v1"; kind = codes "App" } ∷ []); needed = []; deployments = (codes "argo-operator" ∷ []); replaces = None; phase = csv.Nothing }); state = step.Unknown } ∷ []) }); owner = None; stamp = None; seen = 7 })) }

abbrev slot_8 : Key × Slot
slot_8 = (record { group = operators; kind = codes "InstallPlan"; namespace = codes "default"; name = codes "install-1" }, record { version = 8; object = (Some (record { body = []; status = status.Plan (record { number = 1; manual = false; approved = false; phase = plan.Installing; cause = None; steps = (record { key = record { group = codes "apiextensions.k8s.io"; kind = codes "CustomResourceDefinition"; namespace = []; name = codes "apps.argo.io" }; body = codes "body 1"; made = made.Plain; state = step.Created } ∷ record { key = record { group = operators; kind = codes "ClusterServiceVersion"; namespace = codes "default"; name = codes "argo.v1.0.0" }; body = codes "body 2"; made = made.Csv (record { «package» = (Some (codes "argo")); version = codes "1.0.0"; owned = (record { name = codes "apps.argo.io"; version = codes "v1"; kind = codes "App" } ∷ []); needed = []; deployments = (codes "argo-operator" ∷ []); replaces = None; phase = csv.Nothing }); state = step.Unknown } ∷ []) }); owner = None; stamp = None; seen = 7 })); stamps = [] })

-- what is seen before write 9
abbrev pub view_9 : View
view_9 = record { namespace = codes "default"; length = 8; slots = slot_7 ∷ slot_3 ∷ slot_1 ∷ slot_8 ∷ slot_2 ∷ [] }

abbrev pub write_9 : Write
write_9 = record { by = writer.Installer; expect = 8; key = record { group = operators; kind = codes "InstallPlan"; namespace = codes "default"; name = codes "install-1" }; object = (Some (record { body = []; status = status.Plan (record { number = 1; manual = false; approved = false; phase = plan.Installing; cause = None; steps = (record { key = record { group = codes "apiextensions.k8s.io"; kind = codes "CustomResourceDefinition"; namespace = []; name = codes "apps.argo.io" }; body = codes "body 1"; made = made.Plain; state = step.Created } ∷ record { key = record { group = operators; kind = codes "ClusterServiceVersion"; namespace = codes "default"; name = codes "argo.v1.0.0" }; body = codes "body 2"; made = made.Csv (record { «package» = (Some (codes "argo")); version = codes "1.0.0"; owned = (record { name = codes "apps.argo.io"; version = codes "v1"; kind = codes "App" } ∷ []); needed = []; deployments = (codes "argo-operator" ∷ []); replaces = None; phase = csv.Nothing }); state = step.Aimed 0 } ∷ []) }); owner = None; stamp = None; seen = 8 })) }

abbrev slot_9 : Key × Slot
slot_9 = (record { group = operators; kind = codes "InstallPlan"; namespace = codes "default"; name = codes "install-1" }, record { version = 9; object = (Some (record { body = []; status = status.Plan (record { number = 1; manual = false; approved = false; phase = plan.Installing; cause = None; steps = (record { key = record { group = codes "apiextensions.k8s.io"; kind = codes "CustomResourceDefinition"; namespace = []; name = codes "apps.argo.io" }; body = codes "body 1"; made = made.Plain; state = step.Created } ∷ record { key = record { group = operators; kind = codes "ClusterServiceVersion"; namespace = codes "default"; name = codes "argo.v1.0.0" }; body = codes "body 2"; made = made.Csv (record { «package» = (Some (codes "argo")); version = codes "1.0.0"; owned = (record { name = codes "apps.argo.io"; version = codes "v1"; kind = codes "App" } ∷ []); needed = []; deployments = (codes "argo-operator" ∷ []); replaces = None; phase = csv.Nothing }); state = step.Aimed 0 } ∷ []) }); owner = None; stamp = None; seen = 8 })); stamps = [] })

-- what is seen before write 10
abbrev pub view_10 : View
view_10 = record { namespace = codes "default"; length = 9; slots = slot_7 ∷ slot_3 ∷ slot_1 ∷ slot_9 ∷ slot_2 ∷ [] }

abbrev pub write_10 : Write
write_10 = record { by = writer.Installer; expect = 0; key = record { group = operators; kind = codes "ClusterServiceVersion"; namespace = codes "default"; name = codes "argo.v1.0.0" }; object = (Some (record { body = codes "body 2"; status = status.Csv (record { «package» = (Some (codes "argo")); version = codes "1.0.0"; owned = (record { name = codes "apps.argo.io"; version = codes "v1"; kind = codes "App" } ∷ []); needed = []; deployments = (codes "argo-operator" ∷ []); replaces = None; phase = csv.Nothing }); owner = None; stamp = (Some (record { namespace = codes "default"; plan = 1; step = 1 })); seen = 9 })) }

abbrev slot_10 : Key × Slot
slot_10 = (record { group = operators; kind = codes "ClusterServiceVersion"; namespace = codes "default"; name = codes "argo.v1.0.0" }, record { version = 10; object = (Some (record { body = codes "body 2"; status = status.Csv (record { «package» = (Some (codes "argo")); version = codes "1.0.0"; owned = (record { name = codes "apps.argo.io"; version = codes "v1"; kind = codes "App" } ∷ []); needed = []; deployments = (codes "argo-operator" ∷ []); replaces = None; phase = csv.Nothing }); owner = None; stamp = (Some (record { namespace = codes "default"; plan = 1; step = 1 })); seen = 9 })); stamps = (record { namespace = codes "default"; plan = 1; step = 1 } ∷ []) })

-- what is seen before write 11
abbrev pub view_11 : View
view_11 = record { namespace = codes "default"; length = 10; slots = slot_7 ∷ slot_3 ∷ slot_1 ∷ slot_10 ∷ slot_9 ∷ slot_2 ∷ [] }

abbrev pub write_11 : Write
write_11 = record { by = writer.Installer; expect = 9; key = record { group = operators; kind = codes "InstallPlan"; namespace = codes "default"; name = codes "install-1" }; object = (Some (record { body = []; status = status.Plan (record { number = 1; manual = false; approved = false; phase = plan.Installing; cause = None; steps = (record { key = record { group = codes "apiextensions.k8s.io"; kind = codes "CustomResourceDefinition"; namespace = []; name = codes "apps.argo.io" }; body = codes "body 1"; made = made.Plain; state = step.Created } ∷ record { key = record { group = operators; kind = codes "ClusterServiceVersion"; namespace = codes "default"; name = codes "argo.v1.0.0" }; body = codes "body 2"; made = made.Csv (record { «package» = (Some (codes "argo")); version = codes "1.0.0"; owned = (record { name = codes "apps.argo.io"; version = codes "v1"; kind = codes "App" } ∷ []); needed = []; deployments = (codes "argo-operator" ∷ []); replaces = None; phase = csv.Nothing }); state = step.Created } ∷ []) }); owner = None; stamp = None; seen = 10 })) }

abbrev slot_11 : Key × Slot
slot_11 = (record { group = operators; kind = codes "InstallPlan"; namespace = codes "default"; name = codes "install-1" }, record { version = 11; object = (Some (record { body = []; status = status.Plan (record { number = 1; manual = false; approved = false; phase = plan.Installing; cause = None; steps = (record { key = record { group = codes "apiextensions.k8s.io"; kind = codes "CustomResourceDefinition"; namespace = []; name = codes "apps.argo.io" }; body = codes "body 1"; made = made.Plain; state = step.Created } ∷ record { key = record { group = operators; kind = codes "ClusterServiceVersion"; namespace = codes "default"; name = codes "argo.v1.0.0" }; body = codes "body 2"; made = made.Csv (record { «package» = (Some (codes "argo")); version = codes "1.0.0"; owned = (record { name = codes "apps.argo.io"; version = codes "v1"; kind = codes "App" } ∷ []); needed = []; deployments = (codes "argo-operator" ∷ []); replaces = None; phase = csv.Nothing }); state = step.Created } ∷ []) }); owner = None; stamp = None; seen = 10 })); stamps = [] })

-- what is seen before write 12
abbrev pub view_12 : View
view_12 = record { namespace = codes "default"; length = 11; slots = slot_7 ∷ slot_3 ∷ slot_1 ∷ slot_10 ∷ slot_11 ∷ slot_2 ∷ [] }

abbrev pub write_12 : Write
write_12 = record { by = writer.Installer; expect = 11; key = record { group = operators; kind = codes "InstallPlan"; namespace = codes "default"; name = codes "install-1" }; object = (Some (record { body = []; status = status.Plan (record { number = 1; manual = false; approved = false; phase = plan.Complete; cause = None; steps = (record { key = record { group = codes "apiextensions.k8s.io"; kind = codes "CustomResourceDefinition"; namespace = []; name = codes "apps.argo.io" }; body = codes "body 1"; made = made.Plain; state = step.Created } ∷ record { key = record { group = operators; kind = codes "ClusterServiceVersion"; namespace = codes "default"; name = codes "argo.v1.0.0" }; body = codes "body 2"; made = made.Csv (record { «package» = (Some (codes "argo")); version = codes "1.0.0"; owned = (record { name = codes "apps.argo.io"; version = codes "v1"; kind = codes "App" } ∷ []); needed = []; deployments = (codes "argo-operator" ∷ []); replaces = None; phase = csv.Nothing }); state = step.Created } ∷ []) }); owner = None; stamp = None; seen = 11 })) }

abbrev slot_13 : Key × Slot
slot_13 = (record { group = local; kind = codes "Resolution"; namespace = codes "default"; name = codes "current" }, record { version = 13; object = (Some (record { body = []; status = status.Resolution a_resolution; owner = None; stamp = None; seen = 12 })); stamps = [] })

abbrev slot_12 : Key × Slot
slot_12 = (record { group = operators; kind = codes "InstallPlan"; namespace = codes "default"; name = codes "install-1" }, record { version = 12; object = (Some (record { body = []; status = status.Plan (record { number = 1; manual = false; approved = false; phase = plan.Complete; cause = None; steps = (record { key = record { group = codes "apiextensions.k8s.io"; kind = codes "CustomResourceDefinition"; namespace = []; name = codes "apps.argo.io" }; body = codes "body 1"; made = made.Plain; state = step.Created } ∷ record { key = record { group = operators; kind = codes "ClusterServiceVersion"; namespace = codes "default"; name = codes "argo.v1.0.0" }; body = codes "body 2"; made = made.Csv (record { «package» = (Some (codes "argo")); version = codes "1.0.0"; owned = (record { name = codes "apps.argo.io"; version = codes "v1"; kind = codes "App" } ∷ []); needed = []; deployments = (codes "argo-operator" ∷ []); replaces = None; phase = csv.Nothing }); state = step.Created } ∷ []) }); owner = None; stamp = None; seen = 11 })); stamps = [] })

-- what is seen before write 14
abbrev pub view_14 : View
view_14 = record { namespace = codes "default"; length = 13; slots = slot_7 ∷ slot_13 ∷ slot_1 ∷ slot_10 ∷ slot_12 ∷ slot_2 ∷ [] }

abbrev pub write_14 : Write
write_14 = record { by = writer.Phases; expect = 10; key = record { group = operators; kind = codes "ClusterServiceVersion"; namespace = codes "default"; name = codes "argo.v1.0.0" }; object = (Some (record { body = codes "body 2"; status = status.Csv (record { «package» = (Some (codes "argo")); version = codes "1.0.0"; owned = (record { name = codes "apps.argo.io"; version = codes "v1"; kind = codes "App" } ∷ []); needed = []; deployments = (codes "argo-operator" ∷ []); replaces = None; phase = csv.Pending }); owner = None; stamp = None; seen = 13 })) }

abbrev slot_14 : Key × Slot
slot_14 = (record { group = operators; kind = codes "ClusterServiceVersion"; namespace = codes "default"; name = codes "argo.v1.0.0" }, record { version = 14; object = (Some (record { body = codes "body 2"; status = status.Csv (record { «package» = (Some (codes "argo")); version = codes "1.0.0"; owned = (record { name = codes "apps.argo.io"; version = codes "v1"; kind = codes "App" } ∷ []); needed = []; deployments = (codes "argo-operator" ∷ []); replaces = None; phase = csv.Pending }); owner = None; stamp = None; seen = 13 })); stamps = (record { namespace = codes "default"; plan = 1; step = 1 } ∷ []) })

-- what is seen before write 15
abbrev pub view_15 : View
view_15 = record { namespace = codes "default"; length = 14; slots = slot_7 ∷ slot_13 ∷ slot_1 ∷ slot_14 ∷ slot_12 ∷ slot_2 ∷ [] }

abbrev pub write_15 : Write
write_15 = record { by = writer.Phases; expect = 14; key = record { group = operators; kind = codes "ClusterServiceVersion"; namespace = codes "default"; name = codes "argo.v1.0.0" }; object = (Some (record { body = codes "body 2"; status = status.Csv (record { «package» = (Some (codes "argo")); version = codes "1.0.0"; owned = (record { name = codes "apps.argo.io"; version = codes "v1"; kind = codes "App" } ∷ []); needed = []; deployments = (codes "argo-operator" ∷ []); replaces = None; phase = csv.InstallReady }); owner = None; stamp = None; seen = 14 })) }

abbrev slot_15 : Key × Slot
slot_15 = (record { group = operators; kind = codes "ClusterServiceVersion"; namespace = codes "default"; name = codes "argo.v1.0.0" }, record { version = 15; object = (Some (record { body = codes "body 2"; status = status.Csv (record { «package» = (Some (codes "argo")); version = codes "1.0.0"; owned = (record { name = codes "apps.argo.io"; version = codes "v1"; kind = codes "App" } ∷ []); needed = []; deployments = (codes "argo-operator" ∷ []); replaces = None; phase = csv.InstallReady }); owner = None; stamp = None; seen = 14 })); stamps = (record { namespace = codes "default"; plan = 1; step = 1 } ∷ []) })

-- what is seen before write 16
abbrev pub view_16 : View
view_16 = record { namespace = codes "default"; length = 15; slots = slot_7 ∷ slot_13 ∷ slot_1 ∷ slot_15 ∷ slot_12 ∷ slot_2 ∷ [] }

abbrev pub write_16 : Write
write_16 = record { by = writer.Phases; expect = 0; key = record { group = codes "apps"; kind = codes "Deployment"; namespace = codes "default"; name = codes "argo-operator" }; object = (Some (record { body = []; status = status.Deployment readiness.Waiting; owner = (Some (codes "argo.v1.0.0")); stamp = None; seen = 15 })) }

abbrev slot_16 : Key × Slot
slot_16 = (record { group = codes "apps"; kind = codes "Deployment"; namespace = codes "default"; name = codes "argo-operator" }, record { version = 16; object = (Some (record { body = []; status = status.Deployment readiness.Waiting; owner = (Some (codes "argo.v1.0.0")); stamp = None; seen = 15 })); stamps = [] })

-- what is seen before write 17
abbrev pub view_17 : View
view_17 = record { namespace = codes "default"; length = 16; slots = slot_7 ∷ slot_16 ∷ slot_13 ∷ slot_1 ∷ slot_15 ∷ slot_12 ∷ slot_2 ∷ [] }

abbrev pub write_17 : Write
write_17 = record { by = writer.Phases; expect = 15; key = record { group = operators; kind = codes "ClusterServiceVersion"; namespace = codes "default"; name = codes "argo.v1.0.0" }; object = (Some (record { body = codes "body 2"; status = status.Csv (record { «package» = (Some (codes "argo")); version = codes "1.0.0"; owned = (record { name = codes "apps.argo.io"; version = codes "v1"; kind = codes "App" } ∷ []); needed = []; deployments = (codes "argo-operator" ∷ []); replaces = None; phase = csv.Installing }); owner = None; stamp = None; seen = 16 })) }

abbrev slot_19 : Key × Slot
slot_19 = (record { group = codes "apps"; kind = codes "Deployment"; namespace = codes "default"; name = codes "argo-operator" }, record { version = 19; object = (Some (record { body = []; status = status.Deployment readiness.Ready; owner = (Some (codes "argo.v1.0.0")); stamp = None; seen = 18 })); stamps = [] })

abbrev slot_17 : Key × Slot
slot_17 = (record { group = operators; kind = codes "ClusterServiceVersion"; namespace = codes "default"; name = codes "argo.v1.0.0" }, record { version = 17; object = (Some (record { body = codes "body 2"; status = status.Csv (record { «package» = (Some (codes "argo")); version = codes "1.0.0"; owned = (record { name = codes "apps.argo.io"; version = codes "v1"; kind = codes "App" } ∷ []); needed = []; deployments = (codes "argo-operator" ∷ []); replaces = None; phase = csv.Installing }); owner = None; stamp = None; seen = 16 })); stamps = (record { namespace = codes "default"; plan = 1; step = 1 } ∷ []) })

abbrev slot_18 : Key × Slot
slot_18 = (record { group = operators; kind = codes "Subscription"; namespace = codes "default"; name = codes "argo" }, record { version = 18; object = (Some (record { body = codes "body 3"; status = status.Subscription (record { spec = record { «package» = codes "argo"; channel = None; source = codes "cat"; source_namespace = codes "olm"; starting = None; manual = false }; state = sub.AtLatestKnown }); owner = None; stamp = None; seen = 17 })); stamps = [] })

-- what is seen before write 20
abbrev pub view_20 : View
view_20 = record { namespace = codes "default"; length = 19; slots = slot_7 ∷ slot_19 ∷ slot_13 ∷ slot_1 ∷ slot_17 ∷ slot_12 ∷ slot_18 ∷ [] }

abbrev pub write_20 : Write
write_20 = record { by = writer.Phases; expect = 17; key = record { group = operators; kind = codes "ClusterServiceVersion"; namespace = codes "default"; name = codes "argo.v1.0.0" }; object = (Some (record { body = codes "body 2"; status = status.Csv (record { «package» = (Some (codes "argo")); version = codes "1.0.0"; owned = (record { name = codes "apps.argo.io"; version = codes "v1"; kind = codes "App" } ∷ []); needed = []; deployments = (codes "argo-operator" ∷ []); replaces = None; phase = csv.Succeeded }); owner = None; stamp = None; seen = 19 })) }

abbrev slot_23 : Key × Slot
slot_23 = (record { group = local; kind = codes "Resolution"; namespace = codes "default"; name = codes "current" }, record { version = 23; object = (Some (record { body = []; status = status.Resolution a_resolution; owner = None; stamp = None; seen = 22 })); stamps = [] })

abbrev slot_22 : Key × Slot
slot_22 = (record { group = operators; kind = codes "CatalogSource"; namespace = codes "olm"; name = codes "cat" }, record { version = 22; object = (Some (record { body = codes "body 4"; status = status.Catalog (record { priority = pos 0 }); owner = None; stamp = None; seen = 21 })); stamps = [] })

abbrev slot_20 : Key × Slot
slot_20 = (record { group = operators; kind = codes "ClusterServiceVersion"; namespace = codes "default"; name = codes "argo.v1.0.0" }, record { version = 20; object = (Some (record { body = codes "body 2"; status = status.Csv (record { «package» = (Some (codes "argo")); version = codes "1.0.0"; owned = (record { name = codes "apps.argo.io"; version = codes "v1"; kind = codes "App" } ∷ []); needed = []; deployments = (codes "argo-operator" ∷ []); replaces = None; phase = csv.Succeeded }); owner = None; stamp = None; seen = 19 })); stamps = (record { namespace = codes "default"; plan = 1; step = 1 } ∷ []) })

abbrev slot_24 : Key × Slot
slot_24 = (record { group = operators; kind = codes "InstallPlan"; namespace = codes "default"; name = codes "install-4" }, record { version = 24; object = (Some (record { body = []; status = status.Plan (record { number = 4; manual = false; approved = false; phase = plan.Planning; cause = None; steps = (record { key = record { group = codes "apiextensions.k8s.io"; kind = codes "CustomResourceDefinition"; namespace = []; name = codes "apps.argo.io" }; body = codes "body 1"; made = made.Plain; state = step.Unknown } ∷ record { key = record { group = operators; kind = codes "ClusterServiceVersion"; namespace = codes "default"; name = codes "argo.v1.2.0" }; body = codes "body 5"; made = made.Csv (record { «package» = (Some (codes "argo")); version = codes "1.2.0"; owned = (record { name = codes "apps.argo.io"; version = codes "v1"; kind = codes "App" } ∷ []); needed = []; deployments = (codes "argo-operator" ∷ []); replaces = (Some (codes "argo.v1.0.0")); phase = csv.Nothing }); state = step.Unknown } ∷ []) }); owner = None; stamp = None; seen = 23 })); stamps = [] })

-- what is seen before write 25
abbrev pub view_25 : View
view_25 = record { namespace = codes "default"; length = 24; slots = slot_7 ∷ slot_19 ∷ slot_23 ∷ slot_22 ∷ slot_20 ∷ slot_12 ∷ slot_24 ∷ slot_18 ∷ [] }

abbrev pub write_25 : Write
write_25 = record { by = writer.Installer; expect = 24; key = record { group = operators; kind = codes "InstallPlan"; namespace = codes "default"; name = codes "install-4" }; object = (Some (record { body = []; status = status.Plan (record { number = 4; manual = false; approved = false; phase = plan.Installing; cause = None; steps = (record { key = record { group = codes "apiextensions.k8s.io"; kind = codes "CustomResourceDefinition"; namespace = []; name = codes "apps.argo.io" }; body = codes "body 1"; made = made.Plain; state = step.Unknown } ∷ record { key = record { group = operators; kind = codes "ClusterServiceVersion"; namespace = codes "default"; name = codes "argo.v1.2.0" }; body = codes "body 5"; made = made.Csv (record { «package» = (Some (codes "argo")); version = codes "1.2.0"; owned = (record { name = codes "apps.argo.io"; version = codes "v1"; kind = codes "App" } ∷ []); needed = []; deployments = (codes "argo-operator" ∷ []); replaces = (Some (codes "argo.v1.0.0")); phase = csv.Nothing }); state = step.Unknown } ∷ []) }); owner = None; stamp = None; seen = 24 })) }

abbrev slot_25 : Key × Slot
slot_25 = (record { group = operators; kind = codes "InstallPlan"; namespace = codes "default"; name = codes "install-4" }, record { version = 25; object = (Some (record { body = []; status = status.Plan (record { number = 4; manual = false; approved = false; phase = plan.Installing; cause = None; steps = (record { key = record { group = codes "apiextensions.k8s.io"; kind = codes "CustomResourceDefinition"; namespace = []; name = codes "apps.argo.io" }; body = codes "body 1"; made = made.Plain; state = step.Unknown } ∷ record { key = record { group = operators; kind = codes "ClusterServiceVersion"; namespace = codes "default"; name = codes "argo.v1.2.0" }; body = codes "body 5"; made = made.Csv (record { «package» = (Some (codes "argo")); version = codes "1.2.0"; owned = (record { name = codes "apps.argo.io"; version = codes "v1"; kind = codes "App" } ∷ []); needed = []; deployments = (codes "argo-operator" ∷ []); replaces = (Some (codes "argo.v1.0.0")); phase = csv.Nothing }); state = step.Unknown } ∷ []) }); owner = None; stamp = None; seen = 24 })); stamps = [] })

-- what is seen before write 26
abbrev pub view_26 : View
view_26 = record { namespace = codes "default"; length = 25; slots = slot_7 ∷ slot_19 ∷ slot_23 ∷ slot_22 ∷ slot_20 ∷ slot_12 ∷ slot_25 ∷ slot_18 ∷ [] }

abbrev pub write_26 : Write
write_26 = record { by = writer.Installer; expect = 25; key = record { group = operators; kind = codes "InstallPlan"; namespace = codes "default"; name = codes "install-4" }; object = (Some (record { body = []; status = status.Plan (record { number = 4; manual = false; approved = false; phase = plan.Installing; cause = None; steps = (record { key = record { group = codes "apiextensions.k8s.io"; kind = codes "CustomResourceDefinition"; namespace = []; name = codes "apps.argo.io" }; body = codes "body 1"; made = made.Plain; state = step.Present } ∷ record { key = record { group = operators; kind = codes "ClusterServiceVersion"; namespace = codes "default"; name = codes "argo.v1.2.0" }; body = codes "body 5"; made = made.Csv (record { «package» = (Some (codes "argo")); version = codes "1.2.0"; owned = (record { name = codes "apps.argo.io"; version = codes "v1"; kind = codes "App" } ∷ []); needed = []; deployments = (codes "argo-operator" ∷ []); replaces = (Some (codes "argo.v1.0.0")); phase = csv.Nothing }); state = step.Unknown } ∷ []) }); owner = None; stamp = None; seen = 25 })) }

abbrev slot_26 : Key × Slot
slot_26 = (record { group = operators; kind = codes "InstallPlan"; namespace = codes "default"; name = codes "install-4" }, record { version = 26; object = (Some (record { body = []; status = status.Plan (record { number = 4; manual = false; approved = false; phase = plan.Installing; cause = None; steps = (record { key = record { group = codes "apiextensions.k8s.io"; kind = codes "CustomResourceDefinition"; namespace = []; name = codes "apps.argo.io" }; body = codes "body 1"; made = made.Plain; state = step.Present } ∷ record { key = record { group = operators; kind = codes "ClusterServiceVersion"; namespace = codes "default"; name = codes "argo.v1.2.0" }; body = codes "body 5"; made = made.Csv (record { «package» = (Some (codes "argo")); version = codes "1.2.0"; owned = (record { name = codes "apps.argo.io"; version = codes "v1"; kind = codes "App" } ∷ []); needed = []; deployments = (codes "argo-operator" ∷ []); replaces = (Some (codes "argo.v1.0.0")); phase = csv.Nothing }); state = step.Unknown } ∷ []) }); owner = None; stamp = None; seen = 25 })); stamps = [] })

-- what is seen before write 27
abbrev pub view_27 : View
view_27 = record { namespace = codes "default"; length = 26; slots = slot_7 ∷ slot_19 ∷ slot_23 ∷ slot_22 ∷ slot_20 ∷ slot_12 ∷ slot_26 ∷ slot_18 ∷ [] }

abbrev pub write_27 : Write
write_27 = record { by = writer.Installer; expect = 26; key = record { group = operators; kind = codes "InstallPlan"; namespace = codes "default"; name = codes "install-4" }; object = (Some (record { body = []; status = status.Plan (record { number = 4; manual = false; approved = false; phase = plan.Installing; cause = None; steps = (record { key = record { group = codes "apiextensions.k8s.io"; kind = codes "CustomResourceDefinition"; namespace = []; name = codes "apps.argo.io" }; body = codes "body 1"; made = made.Plain; state = step.Present } ∷ record { key = record { group = operators; kind = codes "ClusterServiceVersion"; namespace = codes "default"; name = codes "argo.v1.2.0" }; body = codes "body 5"; made = made.Csv (record { «package» = (Some (codes "argo")); version = codes "1.2.0"; owned = (record { name = codes "apps.argo.io"; version = codes "v1"; kind = codes "App" } ∷ []); needed = []; deployments = (codes "argo-operator" ∷ []); replaces = (Some (codes "argo.v1.0.0")); phase = csv.Nothing }); state = step.Aimed 0 } ∷ []) }); owner = None; stamp = None; seen = 26 })) }

abbrev slot_27 : Key × Slot
slot_27 = (record { group = operators; kind = codes "InstallPlan"; namespace = codes "default"; name = codes "install-4" }, record { version = 27; object = (Some (record { body = []; status = status.Plan (record { number = 4; manual = false; approved = false; phase = plan.Installing; cause = None; steps = (record { key = record { group = codes "apiextensions.k8s.io"; kind = codes "CustomResourceDefinition"; namespace = []; name = codes "apps.argo.io" }; body = codes "body 1"; made = made.Plain; state = step.Present } ∷ record { key = record { group = operators; kind = codes "ClusterServiceVersion"; namespace = codes "default"; name = codes "argo.v1.2.0" }; body = codes "body 5"; made = made.Csv (record { «package» = (Some (codes "argo")); version = codes "1.2.0"; owned = (record { name = codes "apps.argo.io"; version = codes "v1"; kind = codes "App" } ∷ []); needed = []; deployments = (codes "argo-operator" ∷ []); replaces = (Some (codes "argo.v1.0.0")); phase = csv.Nothing }); state = step.Aimed 0 } ∷ []) }); owner = None; stamp = None; seen = 26 })); stamps = [] })

-- what is seen before write 28
abbrev pub view_28 : View
view_28 = record { namespace = codes "default"; length = 27; slots = slot_7 ∷ slot_19 ∷ slot_23 ∷ slot_22 ∷ slot_20 ∷ slot_12 ∷ slot_27 ∷ slot_18 ∷ [] }

abbrev pub write_28 : Write
write_28 = record { by = writer.Installer; expect = 0; key = record { group = operators; kind = codes "ClusterServiceVersion"; namespace = codes "default"; name = codes "argo.v1.2.0" }; object = (Some (record { body = codes "body 5"; status = status.Csv (record { «package» = (Some (codes "argo")); version = codes "1.2.0"; owned = (record { name = codes "apps.argo.io"; version = codes "v1"; kind = codes "App" } ∷ []); needed = []; deployments = (codes "argo-operator" ∷ []); replaces = (Some (codes "argo.v1.0.0")); phase = csv.Nothing }); owner = None; stamp = (Some (record { namespace = codes "default"; plan = 4; step = 1 })); seen = 27 })) }

abbrev slot_28 : Key × Slot
slot_28 = (record { group = operators; kind = codes "ClusterServiceVersion"; namespace = codes "default"; name = codes "argo.v1.2.0" }, record { version = 28; object = (Some (record { body = codes "body 5"; status = status.Csv (record { «package» = (Some (codes "argo")); version = codes "1.2.0"; owned = (record { name = codes "apps.argo.io"; version = codes "v1"; kind = codes "App" } ∷ []); needed = []; deployments = (codes "argo-operator" ∷ []); replaces = (Some (codes "argo.v1.0.0")); phase = csv.Nothing }); owner = None; stamp = (Some (record { namespace = codes "default"; plan = 4; step = 1 })); seen = 27 })); stamps = (record { namespace = codes "default"; plan = 4; step = 1 } ∷ []) })

-- what is seen before write 29
abbrev pub view_29 : View
view_29 = record { namespace = codes "default"; length = 28; slots = slot_7 ∷ slot_19 ∷ slot_23 ∷ slot_22 ∷ slot_20 ∷ slot_28 ∷ slot_12 ∷ slot_27 ∷ slot_18 ∷ [] }

abbrev pub write_29 : Write
write_29 = record { by = writer.Installer; expect = 27; key = record { group = operators; kind = codes "InstallPlan"; namespace = codes "default"; name = codes "install-4" }; object = (Some (record { body = []; status = status.Plan (record { number = 4; manual = false; approved = false; phase = plan.Installing; cause = None; steps = (record { key = record { group = codes "apiextensions.k8s.io"; kind = codes "CustomResourceDefinition"; namespace = []; name = codes "apps.argo.io" }; body = codes "body 1"; made = made.Plain; state = step.Present } ∷ record { key = record { group = operators; kind = codes "ClusterServiceVersion"; namespace = codes "default"; name = codes "argo.v1.2.0" }; body = codes "body 5"; made = made.Csv (record { «package» = (Some (codes "argo")); version = codes "1.2.0"; owned = (record { name = codes "apps.argo.io"; version = codes "v1"; kind = codes "App" } ∷ []); needed = []; deployments = (codes "argo-operator" ∷ []); replaces = (Some (codes "argo.v1.0.0")); phase = csv.Nothing }); state = step.Created } ∷ []) }); owner = None; stamp = None; seen = 28 })) }

abbrev slot_29 : Key × Slot
slot_29 = (record { group = operators; kind = codes "InstallPlan"; namespace = codes "default"; name = codes "install-4" }, record { version = 29; object = (Some (record { body = []; status = status.Plan (record { number = 4; manual = false; approved = false; phase = plan.Installing; cause = None; steps = (record { key = record { group = codes "apiextensions.k8s.io"; kind = codes "CustomResourceDefinition"; namespace = []; name = codes "apps.argo.io" }; body = codes "body 1"; made = made.Plain; state = step.Present } ∷ record { key = record { group = operators; kind = codes "ClusterServiceVersion"; namespace = codes "default"; name = codes "argo.v1.2.0" }; body = codes "body 5"; made = made.Csv (record { «package» = (Some (codes "argo")); version = codes "1.2.0"; owned = (record { name = codes "apps.argo.io"; version = codes "v1"; kind = codes "App" } ∷ []); needed = []; deployments = (codes "argo-operator" ∷ []); replaces = (Some (codes "argo.v1.0.0")); phase = csv.Nothing }); state = step.Created } ∷ []) }); owner = None; stamp = None; seen = 28 })); stamps = [] })

-- what is seen before write 30
abbrev pub view_30 : View
view_30 = record { namespace = codes "default"; length = 29; slots = slot_7 ∷ slot_19 ∷ slot_23 ∷ slot_22 ∷ slot_20 ∷ slot_28 ∷ slot_12 ∷ slot_29 ∷ slot_18 ∷ [] }

abbrev pub write_30 : Write
write_30 = record { by = writer.Installer; expect = 29; key = record { group = operators; kind = codes "InstallPlan"; namespace = codes "default"; name = codes "install-4" }; object = (Some (record { body = []; status = status.Plan (record { number = 4; manual = false; approved = false; phase = plan.Complete; cause = None; steps = (record { key = record { group = codes "apiextensions.k8s.io"; kind = codes "CustomResourceDefinition"; namespace = []; name = codes "apps.argo.io" }; body = codes "body 1"; made = made.Plain; state = step.Present } ∷ record { key = record { group = operators; kind = codes "ClusterServiceVersion"; namespace = codes "default"; name = codes "argo.v1.2.0" }; body = codes "body 5"; made = made.Csv (record { «package» = (Some (codes "argo")); version = codes "1.2.0"; owned = (record { name = codes "apps.argo.io"; version = codes "v1"; kind = codes "App" } ∷ []); needed = []; deployments = (codes "argo-operator" ∷ []); replaces = (Some (codes "argo.v1.0.0")); phase = csv.Nothing }); state = step.Created } ∷ []) }); owner = None; stamp = None; seen = 29 })) }

abbrev slot_31 : Key × Slot
slot_31 = (record { group = local; kind = codes "Resolution"; namespace = codes "default"; name = codes "current" }, record { version = 31; object = (Some (record { body = []; status = status.Resolution a_resolution; owner = None; stamp = None; seen = 30 })); stamps = [] })

abbrev slot_30 : Key × Slot
slot_30 = (record { group = operators; kind = codes "InstallPlan"; namespace = codes "default"; name = codes "install-4" }, record { version = 30; object = (Some (record { body = []; status = status.Plan (record { number = 4; manual = false; approved = false; phase = plan.Complete; cause = None; steps = (record { key = record { group = codes "apiextensions.k8s.io"; kind = codes "CustomResourceDefinition"; namespace = []; name = codes "apps.argo.io" }; body = codes "body 1"; made = made.Plain; state = step.Present } ∷ record { key = record { group = operators; kind = codes "ClusterServiceVersion"; namespace = codes "default"; name = codes "argo.v1.2.0" }; body = codes "body 5"; made = made.Csv (record { «package» = (Some (codes "argo")); version = codes "1.2.0"; owned = (record { name = codes "apps.argo.io"; version = codes "v1"; kind = codes "App" } ∷ []); needed = []; deployments = (codes "argo-operator" ∷ []); replaces = (Some (codes "argo.v1.0.0")); phase = csv.Nothing }); state = step.Created } ∷ []) }); owner = None; stamp = None; seen = 29 })); stamps = [] })

-- what is seen before write 32
abbrev pub view_32 : View
view_32 = record { namespace = codes "default"; length = 31; slots = slot_7 ∷ slot_19 ∷ slot_31 ∷ slot_22 ∷ slot_20 ∷ slot_28 ∷ slot_12 ∷ slot_30 ∷ slot_18 ∷ [] }

abbrev pub write_32 : Write
write_32 = record { by = writer.Phases; expect = 20; key = record { group = operators; kind = codes "ClusterServiceVersion"; namespace = codes "default"; name = codes "argo.v1.0.0" }; object = (Some (record { body = codes "body 2"; status = status.Csv (record { «package» = (Some (codes "argo")); version = codes "1.0.0"; owned = (record { name = codes "apps.argo.io"; version = codes "v1"; kind = codes "App" } ∷ []); needed = []; deployments = (codes "argo-operator" ∷ []); replaces = None; phase = csv.Replacing }); owner = None; stamp = None; seen = 31 })) }

abbrev slot_32 : Key × Slot
slot_32 = (record { group = operators; kind = codes "ClusterServiceVersion"; namespace = codes "default"; name = codes "argo.v1.0.0" }, record { version = 32; object = (Some (record { body = codes "body 2"; status = status.Csv (record { «package» = (Some (codes "argo")); version = codes "1.0.0"; owned = (record { name = codes "apps.argo.io"; version = codes "v1"; kind = codes "App" } ∷ []); needed = []; deployments = (codes "argo-operator" ∷ []); replaces = None; phase = csv.Replacing }); owner = None; stamp = None; seen = 31 })); stamps = (record { namespace = codes "default"; plan = 1; step = 1 } ∷ []) })

-- what is seen before write 33
abbrev pub view_33 : View
view_33 = record { namespace = codes "default"; length = 32; slots = slot_7 ∷ slot_19 ∷ slot_31 ∷ slot_22 ∷ slot_32 ∷ slot_28 ∷ slot_12 ∷ slot_30 ∷ slot_18 ∷ [] }

abbrev pub write_33 : Write
write_33 = record { by = writer.Phases; expect = 28; key = record { group = operators; kind = codes "ClusterServiceVersion"; namespace = codes "default"; name = codes "argo.v1.2.0" }; object = (Some (record { body = codes "body 5"; status = status.Csv (record { «package» = (Some (codes "argo")); version = codes "1.2.0"; owned = (record { name = codes "apps.argo.io"; version = codes "v1"; kind = codes "App" } ∷ []); needed = []; deployments = (codes "argo-operator" ∷ []); replaces = (Some (codes "argo.v1.0.0")); phase = csv.Pending }); owner = None; stamp = None; seen = 32 })) }

abbrev slot_33 : Key × Slot
slot_33 = (record { group = operators; kind = codes "ClusterServiceVersion"; namespace = codes "default"; name = codes "argo.v1.2.0" }, record { version = 33; object = (Some (record { body = codes "body 5"; status = status.Csv (record { «package» = (Some (codes "argo")); version = codes "1.2.0"; owned = (record { name = codes "apps.argo.io"; version = codes "v1"; kind = codes "App" } ∷ []); needed = []; deployments = (codes "argo-operator" ∷ []); replaces = (Some (codes "argo.v1.0.0")); phase = csv.Pending }); owner = None; stamp = None; seen = 32 })); stamps = (record { namespace = codes "default"; plan = 4; step = 1 } ∷ []) })

-- what is seen before write 34
abbrev pub view_34 : View
view_34 = record { namespace = codes "default"; length = 33; slots = slot_7 ∷ slot_19 ∷ slot_31 ∷ slot_22 ∷ slot_32 ∷ slot_33 ∷ slot_12 ∷ slot_30 ∷ slot_18 ∷ [] }

abbrev pub write_34 : Write
write_34 = record { by = writer.Phases; expect = 33; key = record { group = operators; kind = codes "ClusterServiceVersion"; namespace = codes "default"; name = codes "argo.v1.2.0" }; object = (Some (record { body = codes "body 5"; status = status.Csv (record { «package» = (Some (codes "argo")); version = codes "1.2.0"; owned = (record { name = codes "apps.argo.io"; version = codes "v1"; kind = codes "App" } ∷ []); needed = []; deployments = (codes "argo-operator" ∷ []); replaces = (Some (codes "argo.v1.0.0")); phase = csv.InstallReady }); owner = None; stamp = None; seen = 33 })) }

abbrev slot_34 : Key × Slot
slot_34 = (record { group = operators; kind = codes "ClusterServiceVersion"; namespace = codes "default"; name = codes "argo.v1.2.0" }, record { version = 34; object = (Some (record { body = codes "body 5"; status = status.Csv (record { «package» = (Some (codes "argo")); version = codes "1.2.0"; owned = (record { name = codes "apps.argo.io"; version = codes "v1"; kind = codes "App" } ∷ []); needed = []; deployments = (codes "argo-operator" ∷ []); replaces = (Some (codes "argo.v1.0.0")); phase = csv.InstallReady }); owner = None; stamp = None; seen = 33 })); stamps = (record { namespace = codes "default"; plan = 4; step = 1 } ∷ []) })

-- what is seen before write 35
abbrev pub view_35 : View
view_35 = record { namespace = codes "default"; length = 34; slots = slot_7 ∷ slot_19 ∷ slot_31 ∷ slot_22 ∷ slot_32 ∷ slot_34 ∷ slot_12 ∷ slot_30 ∷ slot_18 ∷ [] }

abbrev pub write_35 : Write
write_35 = record { by = writer.Phases; expect = 19; key = record { group = codes "apps"; kind = codes "Deployment"; namespace = codes "default"; name = codes "argo-operator" }; object = (Some (record { body = []; status = status.Deployment readiness.Waiting; owner = (Some (codes "argo.v1.2.0")); stamp = None; seen = 34 })) }

abbrev slot_35 : Key × Slot
slot_35 = (record { group = codes "apps"; kind = codes "Deployment"; namespace = codes "default"; name = codes "argo-operator" }, record { version = 35; object = (Some (record { body = []; status = status.Deployment readiness.Waiting; owner = (Some (codes "argo.v1.2.0")); stamp = None; seen = 34 })); stamps = [] })

-- what is seen before write 36
abbrev pub view_36 : View
view_36 = record { namespace = codes "default"; length = 35; slots = slot_7 ∷ slot_35 ∷ slot_31 ∷ slot_22 ∷ slot_32 ∷ slot_34 ∷ slot_12 ∷ slot_30 ∷ slot_18 ∷ [] }

abbrev pub write_36 : Write
write_36 = record { by = writer.Phases; expect = 34; key = record { group = operators; kind = codes "ClusterServiceVersion"; namespace = codes "default"; name = codes "argo.v1.2.0" }; object = (Some (record { body = codes "body 5"; status = status.Csv (record { «package» = (Some (codes "argo")); version = codes "1.2.0"; owned = (record { name = codes "apps.argo.io"; version = codes "v1"; kind = codes "App" } ∷ []); needed = []; deployments = (codes "argo-operator" ∷ []); replaces = (Some (codes "argo.v1.0.0")); phase = csv.Installing }); owner = None; stamp = None; seen = 35 })) }

abbrev slot_37 : Key × Slot
slot_37 = (record { group = codes "apps"; kind = codes "Deployment"; namespace = codes "default"; name = codes "argo-operator" }, record { version = 37; object = (Some (record { body = []; status = status.Deployment readiness.Failed; owner = (Some (codes "argo.v1.2.0")); stamp = None; seen = 36 })); stamps = [] })

abbrev slot_36 : Key × Slot
slot_36 = (record { group = operators; kind = codes "ClusterServiceVersion"; namespace = codes "default"; name = codes "argo.v1.2.0" }, record { version = 36; object = (Some (record { body = codes "body 5"; status = status.Csv (record { «package» = (Some (codes "argo")); version = codes "1.2.0"; owned = (record { name = codes "apps.argo.io"; version = codes "v1"; kind = codes "App" } ∷ []); needed = []; deployments = (codes "argo-operator" ∷ []); replaces = (Some (codes "argo.v1.0.0")); phase = csv.Installing }); owner = None; stamp = None; seen = 35 })); stamps = (record { namespace = codes "default"; plan = 4; step = 1 } ∷ []) })

-- what is seen before write 38
abbrev pub view_38 : View
view_38 = record { namespace = codes "default"; length = 37; slots = slot_7 ∷ slot_37 ∷ slot_31 ∷ slot_22 ∷ slot_32 ∷ slot_36 ∷ slot_12 ∷ slot_30 ∷ slot_18 ∷ [] }

abbrev pub write_38 : Write
write_38 = record { by = writer.Phases; expect = 36; key = record { group = operators; kind = codes "ClusterServiceVersion"; namespace = codes "default"; name = codes "argo.v1.2.0" }; object = (Some (record { body = codes "body 5"; status = status.Csv (record { «package» = (Some (codes "argo")); version = codes "1.2.0"; owned = (record { name = codes "apps.argo.io"; version = codes "v1"; kind = codes "App" } ∷ []); needed = []; deployments = (codes "argo-operator" ∷ []); replaces = (Some (codes "argo.v1.0.0")); phase = csv.Failed }); owner = None; stamp = None; seen = 37 })) }

abbrev slot_43 : Key × Slot
slot_43 = (record { group = local; kind = codes "Resolution"; namespace = codes "default"; name = codes "current" }, record { version = 43; object = (Some (record { body = []; status = status.Resolution a_resolution; owner = None; stamp = None; seen = 42 })); stamps = [] })

abbrev slot_42 : Key × Slot
slot_42 = (record { group = local; kind = codes "Strategy"; namespace = codes "default"; name = codes "strategy" }, record { version = 42; object = (Some (record { body = codes "body 6"; status = status.Strategy (record { forward = true }); owner = None; stamp = None; seen = 41 })); stamps = [] })

abbrev slot_39 : Key × Slot
slot_39 = (record { group = operators; kind = codes "CatalogSource"; namespace = codes "olm"; name = codes "cat" }, record { version = 39; object = (Some (record { body = codes "body 7"; status = status.Catalog (record { priority = pos 0 }); owner = None; stamp = None; seen = 38 })); stamps = [] })

abbrev slot_38 : Key × Slot
slot_38 = (record { group = operators; kind = codes "ClusterServiceVersion"; namespace = codes "default"; name = codes "argo.v1.2.0" }, record { version = 38; object = (Some (record { body = codes "body 5"; status = status.Csv (record { «package» = (Some (codes "argo")); version = codes "1.2.0"; owned = (record { name = codes "apps.argo.io"; version = codes "v1"; kind = codes "App" } ∷ []); needed = []; deployments = (codes "argo-operator" ∷ []); replaces = (Some (codes "argo.v1.0.0")); phase = csv.Failed }); owner = None; stamp = None; seen = 37 })); stamps = (record { namespace = codes "default"; plan = 4; step = 1 } ∷ []) })

abbrev slot_44 : Key × Slot
slot_44 = (record { group = operators; kind = codes "InstallPlan"; namespace = codes "default"; name = codes "install-7" }, record { version = 44; object = (Some (record { body = []; status = status.Plan (record { number = 7; manual = false; approved = false; phase = plan.Planning; cause = None; steps = (record { key = record { group = codes "apiextensions.k8s.io"; kind = codes "CustomResourceDefinition"; namespace = []; name = codes "apps.argo.io" }; body = codes "body 1"; made = made.Plain; state = step.Unknown } ∷ record { key = record { group = operators; kind = codes "ClusterServiceVersion"; namespace = codes "default"; name = codes "argo.v1.3.0" }; body = codes "body 8"; made = made.Csv (record { «package» = (Some (codes "argo")); version = codes "1.3.0"; owned = (record { name = codes "apps.argo.io"; version = codes "v1"; kind = codes "App" } ∷ []); needed = []; deployments = (codes "argo-operator" ∷ []); replaces = (Some (codes "argo.v1.2.0")); phase = csv.Nothing }); state = step.Unknown } ∷ []) }); owner = None; stamp = None; seen = 43 })); stamps = [] })

abbrev slot_41 : Key × Slot
slot_41 = (record { group = operators; kind = codes "Subscription"; namespace = codes "default"; name = codes "argo" }, record { version = 41; object = (Some (record { body = codes "body 3"; status = status.Subscription (record { spec = record { «package» = codes "argo"; channel = None; source = codes "cat"; source_namespace = codes "olm"; starting = None; manual = false }; state = sub.UpgradeAvailable }); owner = None; stamp = None; seen = 40 })); stamps = [] })

-- what is seen before write 45
abbrev pub view_45 : View
view_45 = record { namespace = codes "default"; length = 44; slots = slot_7 ∷ slot_37 ∷ slot_43 ∷ slot_42 ∷ slot_39 ∷ slot_32 ∷ slot_38 ∷ slot_12 ∷ slot_30 ∷ slot_44 ∷ slot_41 ∷ [] }

abbrev pub write_45 : Write
write_45 = record { by = writer.Installer; expect = 44; key = record { group = operators; kind = codes "InstallPlan"; namespace = codes "default"; name = codes "install-7" }; object = (Some (record { body = []; status = status.Plan (record { number = 7; manual = false; approved = false; phase = plan.Installing; cause = None; steps = (record { key = record { group = codes "apiextensions.k8s.io"; kind = codes "CustomResourceDefinition"; namespace = []; name = codes "apps.argo.io" }; body = codes "body 1"; made = made.Plain; state = step.Unknown } ∷ record { key = record { group = operators; kind = codes "ClusterServiceVersion"; namespace = codes "default"; name = codes "argo.v1.3.0" }; body = codes "body 8"; made = made.Csv (record { «package» = (Some (codes "argo")); version = codes "1.3.0"; owned = (record { name = codes "apps.argo.io"; version = codes "v1"; kind = codes "App" } ∷ []); needed = []; deployments = (codes "argo-operator" ∷ []); replaces = (Some (codes "argo.v1.2.0")); phase = csv.Nothing }); state = step.Unknown } ∷ []) }); owner = None; stamp = None; seen = 44 })) }

abbrev slot_45 : Key × Slot
slot_45 = (record { group = operators; kind = codes "InstallPlan"; namespace = codes "default"; name = codes "install-7" }, record { version = 45; object = (Some (record { body = []; status = status.Plan (record { number = 7; manual = false; approved = false; phase = plan.Installing; cause = None; steps = (record { key = record { group = codes "apiextensions.k8s.io"; kind = codes "CustomResourceDefinition"; namespace = []; name = codes "apps.argo.io" }; body = codes "body 1"; made = made.Plain; state = step.Unknown } ∷ record { key = record { group = operators; kind = codes "ClusterServiceVersion"; namespace = codes "default"; name = codes "argo.v1.3.0" }; body = codes "body 8"; made = made.Csv (record { «package» = (Some (codes "argo")); version = codes "1.3.0"; owned = (record { name = codes "apps.argo.io"; version = codes "v1"; kind = codes "App" } ∷ []); needed = []; deployments = (codes "argo-operator" ∷ []); replaces = (Some (codes "argo.v1.2.0")); phase = csv.Nothing }); state = step.Unknown } ∷ []) }); owner = None; stamp = None; seen = 44 })); stamps = [] })

-- what is seen before write 46
abbrev pub view_46 : View
view_46 = record { namespace = codes "default"; length = 45; slots = slot_7 ∷ slot_37 ∷ slot_43 ∷ slot_42 ∷ slot_39 ∷ slot_32 ∷ slot_38 ∷ slot_12 ∷ slot_30 ∷ slot_45 ∷ slot_41 ∷ [] }

abbrev pub write_46 : Write
write_46 = record { by = writer.Installer; expect = 45; key = record { group = operators; kind = codes "InstallPlan"; namespace = codes "default"; name = codes "install-7" }; object = (Some (record { body = []; status = status.Plan (record { number = 7; manual = false; approved = false; phase = plan.Installing; cause = None; steps = (record { key = record { group = codes "apiextensions.k8s.io"; kind = codes "CustomResourceDefinition"; namespace = []; name = codes "apps.argo.io" }; body = codes "body 1"; made = made.Plain; state = step.Present } ∷ record { key = record { group = operators; kind = codes "ClusterServiceVersion"; namespace = codes "default"; name = codes "argo.v1.3.0" }; body = codes "body 8"; made = made.Csv (record { «package» = (Some (codes "argo")); version = codes "1.3.0"; owned = (record { name = codes "apps.argo.io"; version = codes "v1"; kind = codes "App" } ∷ []); needed = []; deployments = (codes "argo-operator" ∷ []); replaces = (Some (codes "argo.v1.2.0")); phase = csv.Nothing }); state = step.Unknown } ∷ []) }); owner = None; stamp = None; seen = 45 })) }

abbrev slot_46 : Key × Slot
slot_46 = (record { group = operators; kind = codes "InstallPlan"; namespace = codes "default"; name = codes "install-7" }, record { version = 46; object = (Some (record { body = []; status = status.Plan (record { number = 7; manual = false; approved = false; phase = plan.Installing; cause = None; steps = (record { key = record { group = codes "apiextensions.k8s.io"; kind = codes "CustomResourceDefinition"; namespace = []; name = codes "apps.argo.io" }; body = codes "body 1"; made = made.Plain; state = step.Present } ∷ record { key = record { group = operators; kind = codes "ClusterServiceVersion"; namespace = codes "default"; name = codes "argo.v1.3.0" }; body = codes "body 8"; made = made.Csv (record { «package» = (Some (codes "argo")); version = codes "1.3.0"; owned = (record { name = codes "apps.argo.io"; version = codes "v1"; kind = codes "App" } ∷ []); needed = []; deployments = (codes "argo-operator" ∷ []); replaces = (Some (codes "argo.v1.2.0")); phase = csv.Nothing }); state = step.Unknown } ∷ []) }); owner = None; stamp = None; seen = 45 })); stamps = [] })

-- what is seen before write 47
abbrev pub view_47 : View
view_47 = record { namespace = codes "default"; length = 46; slots = slot_7 ∷ slot_37 ∷ slot_43 ∷ slot_42 ∷ slot_39 ∷ slot_32 ∷ slot_38 ∷ slot_12 ∷ slot_30 ∷ slot_46 ∷ slot_41 ∷ [] }

abbrev pub write_47 : Write
write_47 = record { by = writer.Installer; expect = 46; key = record { group = operators; kind = codes "InstallPlan"; namespace = codes "default"; name = codes "install-7" }; object = (Some (record { body = []; status = status.Plan (record { number = 7; manual = false; approved = false; phase = plan.Installing; cause = None; steps = (record { key = record { group = codes "apiextensions.k8s.io"; kind = codes "CustomResourceDefinition"; namespace = []; name = codes "apps.argo.io" }; body = codes "body 1"; made = made.Plain; state = step.Present } ∷ record { key = record { group = operators; kind = codes "ClusterServiceVersion"; namespace = codes "default"; name = codes "argo.v1.3.0" }; body = codes "body 8"; made = made.Csv (record { «package» = (Some (codes "argo")); version = codes "1.3.0"; owned = (record { name = codes "apps.argo.io"; version = codes "v1"; kind = codes "App" } ∷ []); needed = []; deployments = (codes "argo-operator" ∷ []); replaces = (Some (codes "argo.v1.2.0")); phase = csv.Nothing }); state = step.Aimed 0 } ∷ []) }); owner = None; stamp = None; seen = 46 })) }

abbrev slot_47 : Key × Slot
slot_47 = (record { group = operators; kind = codes "InstallPlan"; namespace = codes "default"; name = codes "install-7" }, record { version = 47; object = (Some (record { body = []; status = status.Plan (record { number = 7; manual = false; approved = false; phase = plan.Installing; cause = None; steps = (record { key = record { group = codes "apiextensions.k8s.io"; kind = codes "CustomResourceDefinition"; namespace = []; name = codes "apps.argo.io" }; body = codes "body 1"; made = made.Plain; state = step.Present } ∷ record { key = record { group = operators; kind = codes "ClusterServiceVersion"; namespace = codes "default"; name = codes "argo.v1.3.0" }; body = codes "body 8"; made = made.Csv (record { «package» = (Some (codes "argo")); version = codes "1.3.0"; owned = (record { name = codes "apps.argo.io"; version = codes "v1"; kind = codes "App" } ∷ []); needed = []; deployments = (codes "argo-operator" ∷ []); replaces = (Some (codes "argo.v1.2.0")); phase = csv.Nothing }); state = step.Aimed 0 } ∷ []) }); owner = None; stamp = None; seen = 46 })); stamps = [] })

-- what is seen before write 48
abbrev pub view_48 : View
view_48 = record { namespace = codes "default"; length = 47; slots = slot_7 ∷ slot_37 ∷ slot_43 ∷ slot_42 ∷ slot_39 ∷ slot_32 ∷ slot_38 ∷ slot_12 ∷ slot_30 ∷ slot_47 ∷ slot_41 ∷ [] }

abbrev pub write_48 : Write
write_48 = record { by = writer.Installer; expect = 0; key = record { group = operators; kind = codes "ClusterServiceVersion"; namespace = codes "default"; name = codes "argo.v1.3.0" }; object = (Some (record { body = codes "body 8"; status = status.Csv (record { «package» = (Some (codes "argo")); version = codes "1.3.0"; owned = (record { name = codes "apps.argo.io"; version = codes "v1"; kind = codes "App" } ∷ []); needed = []; deployments = (codes "argo-operator" ∷ []); replaces = (Some (codes "argo.v1.2.0")); phase = csv.Nothing }); owner = None; stamp = (Some (record { namespace = codes "default"; plan = 7; step = 1 })); seen = 47 })) }

abbrev slot_48 : Key × Slot
slot_48 = (record { group = operators; kind = codes "ClusterServiceVersion"; namespace = codes "default"; name = codes "argo.v1.3.0" }, record { version = 48; object = (Some (record { body = codes "body 8"; status = status.Csv (record { «package» = (Some (codes "argo")); version = codes "1.3.0"; owned = (record { name = codes "apps.argo.io"; version = codes "v1"; kind = codes "App" } ∷ []); needed = []; deployments = (codes "argo-operator" ∷ []); replaces = (Some (codes "argo.v1.2.0")); phase = csv.Nothing }); owner = None; stamp = (Some (record { namespace = codes "default"; plan = 7; step = 1 })); seen = 47 })); stamps = (record { namespace = codes "default"; plan = 7; step = 1 } ∷ []) })

-- what is seen before write 49
abbrev pub view_49 : View
view_49 = record { namespace = codes "default"; length = 48; slots = slot_7 ∷ slot_37 ∷ slot_43 ∷ slot_42 ∷ slot_39 ∷ slot_32 ∷ slot_38 ∷ slot_48 ∷ slot_12 ∷ slot_30 ∷ slot_47 ∷ slot_41 ∷ [] }

abbrev pub write_49 : Write
write_49 = record { by = writer.Installer; expect = 47; key = record { group = operators; kind = codes "InstallPlan"; namespace = codes "default"; name = codes "install-7" }; object = (Some (record { body = []; status = status.Plan (record { number = 7; manual = false; approved = false; phase = plan.Installing; cause = None; steps = (record { key = record { group = codes "apiextensions.k8s.io"; kind = codes "CustomResourceDefinition"; namespace = []; name = codes "apps.argo.io" }; body = codes "body 1"; made = made.Plain; state = step.Present } ∷ record { key = record { group = operators; kind = codes "ClusterServiceVersion"; namespace = codes "default"; name = codes "argo.v1.3.0" }; body = codes "body 8"; made = made.Csv (record { «package» = (Some (codes "argo")); version = codes "1.3.0"; owned = (record { name = codes "apps.argo.io"; version = codes "v1"; kind = codes "App" } ∷ []); needed = []; deployments = (codes "argo-operator" ∷ []); replaces = (Some (codes "argo.v1.2.0")); phase = csv.Nothing }); state = step.Created } ∷ []) }); owner = None; stamp = None; seen = 48 })) }

abbrev slot_49 : Key × Slot
slot_49 = (record { group = operators; kind = codes "InstallPlan"; namespace = codes "default"; name = codes "install-7" }, record { version = 49; object = (Some (record { body = []; status = status.Plan (record { number = 7; manual = false; approved = false; phase = plan.Installing; cause = None; steps = (record { key = record { group = codes "apiextensions.k8s.io"; kind = codes "CustomResourceDefinition"; namespace = []; name = codes "apps.argo.io" }; body = codes "body 1"; made = made.Plain; state = step.Present } ∷ record { key = record { group = operators; kind = codes "ClusterServiceVersion"; namespace = codes "default"; name = codes "argo.v1.3.0" }; body = codes "body 8"; made = made.Csv (record { «package» = (Some (codes "argo")); version = codes "1.3.0"; owned = (record { name = codes "apps.argo.io"; version = codes "v1"; kind = codes "App" } ∷ []); needed = []; deployments = (codes "argo-operator" ∷ []); replaces = (Some (codes "argo.v1.2.0")); phase = csv.Nothing }); state = step.Created } ∷ []) }); owner = None; stamp = None; seen = 48 })); stamps = [] })

-- what is seen before write 50
abbrev pub view_50 : View
view_50 = record { namespace = codes "default"; length = 49; slots = slot_7 ∷ slot_37 ∷ slot_43 ∷ slot_42 ∷ slot_39 ∷ slot_32 ∷ slot_38 ∷ slot_48 ∷ slot_12 ∷ slot_30 ∷ slot_49 ∷ slot_41 ∷ [] }

abbrev pub write_50 : Write
write_50 = record { by = writer.Installer; expect = 49; key = record { group = operators; kind = codes "InstallPlan"; namespace = codes "default"; name = codes "install-7" }; object = (Some (record { body = []; status = status.Plan (record { number = 7; manual = false; approved = false; phase = plan.Complete; cause = None; steps = (record { key = record { group = codes "apiextensions.k8s.io"; kind = codes "CustomResourceDefinition"; namespace = []; name = codes "apps.argo.io" }; body = codes "body 1"; made = made.Plain; state = step.Present } ∷ record { key = record { group = operators; kind = codes "ClusterServiceVersion"; namespace = codes "default"; name = codes "argo.v1.3.0" }; body = codes "body 8"; made = made.Csv (record { «package» = (Some (codes "argo")); version = codes "1.3.0"; owned = (record { name = codes "apps.argo.io"; version = codes "v1"; kind = codes "App" } ∷ []); needed = []; deployments = (codes "argo-operator" ∷ []); replaces = (Some (codes "argo.v1.2.0")); phase = csv.Nothing }); state = step.Created } ∷ []) }); owner = None; stamp = None; seen = 49 })) }

abbrev slot_51 : Key × Slot
slot_51 = (record { group = local; kind = codes "Resolution"; namespace = codes "default"; name = codes "current" }, record { version = 51; object = (Some (record { body = []; status = status.Resolution a_resolution; owner = None; stamp = None; seen = 50 })); stamps = [] })

abbrev slot_50 : Key × Slot
slot_50 = (record { group = operators; kind = codes "InstallPlan"; namespace = codes "default"; name = codes "install-7" }, record { version = 50; object = (Some (record { body = []; status = status.Plan (record { number = 7; manual = false; approved = false; phase = plan.Complete; cause = None; steps = (record { key = record { group = codes "apiextensions.k8s.io"; kind = codes "CustomResourceDefinition"; namespace = []; name = codes "apps.argo.io" }; body = codes "body 1"; made = made.Plain; state = step.Present } ∷ record { key = record { group = operators; kind = codes "ClusterServiceVersion"; namespace = codes "default"; name = codes "argo.v1.3.0" }; body = codes "body 8"; made = made.Csv (record { «package» = (Some (codes "argo")); version = codes "1.3.0"; owned = (record { name = codes "apps.argo.io"; version = codes "v1"; kind = codes "App" } ∷ []); needed = []; deployments = (codes "argo-operator" ∷ []); replaces = (Some (codes "argo.v1.2.0")); phase = csv.Nothing }); state = step.Created } ∷ []) }); owner = None; stamp = None; seen = 49 })); stamps = [] })

-- what is seen before write 52
abbrev pub view_52 : View
view_52 = record { namespace = codes "default"; length = 51; slots = slot_7 ∷ slot_37 ∷ slot_51 ∷ slot_42 ∷ slot_39 ∷ slot_32 ∷ slot_38 ∷ slot_48 ∷ slot_12 ∷ slot_30 ∷ slot_50 ∷ slot_41 ∷ [] }

abbrev pub write_52 : Write
write_52 = record { by = writer.Phases; expect = 38; key = record { group = operators; kind = codes "ClusterServiceVersion"; namespace = codes "default"; name = codes "argo.v1.2.0" }; object = (Some (record { body = codes "body 5"; status = status.Csv (record { «package» = (Some (codes "argo")); version = codes "1.2.0"; owned = (record { name = codes "apps.argo.io"; version = codes "v1"; kind = codes "App" } ∷ []); needed = []; deployments = (codes "argo-operator" ∷ []); replaces = (Some (codes "argo.v1.0.0")); phase = csv.Replacing }); owner = None; stamp = None; seen = 51 })) }

abbrev slot_52 : Key × Slot
slot_52 = (record { group = operators; kind = codes "ClusterServiceVersion"; namespace = codes "default"; name = codes "argo.v1.2.0" }, record { version = 52; object = (Some (record { body = codes "body 5"; status = status.Csv (record { «package» = (Some (codes "argo")); version = codes "1.2.0"; owned = (record { name = codes "apps.argo.io"; version = codes "v1"; kind = codes "App" } ∷ []); needed = []; deployments = (codes "argo-operator" ∷ []); replaces = (Some (codes "argo.v1.0.0")); phase = csv.Replacing }); owner = None; stamp = None; seen = 51 })); stamps = (record { namespace = codes "default"; plan = 4; step = 1 } ∷ []) })

-- what is seen before write 53
abbrev pub view_53 : View
view_53 = record { namespace = codes "default"; length = 52; slots = slot_7 ∷ slot_37 ∷ slot_51 ∷ slot_42 ∷ slot_39 ∷ slot_32 ∷ slot_52 ∷ slot_48 ∷ slot_12 ∷ slot_30 ∷ slot_50 ∷ slot_41 ∷ [] }

abbrev pub write_53 : Write
write_53 = record { by = writer.Phases; expect = 48; key = record { group = operators; kind = codes "ClusterServiceVersion"; namespace = codes "default"; name = codes "argo.v1.3.0" }; object = (Some (record { body = codes "body 8"; status = status.Csv (record { «package» = (Some (codes "argo")); version = codes "1.3.0"; owned = (record { name = codes "apps.argo.io"; version = codes "v1"; kind = codes "App" } ∷ []); needed = []; deployments = (codes "argo-operator" ∷ []); replaces = (Some (codes "argo.v1.2.0")); phase = csv.Pending }); owner = None; stamp = None; seen = 52 })) }

abbrev slot_53 : Key × Slot
slot_53 = (record { group = operators; kind = codes "ClusterServiceVersion"; namespace = codes "default"; name = codes "argo.v1.3.0" }, record { version = 53; object = (Some (record { body = codes "body 8"; status = status.Csv (record { «package» = (Some (codes "argo")); version = codes "1.3.0"; owned = (record { name = codes "apps.argo.io"; version = codes "v1"; kind = codes "App" } ∷ []); needed = []; deployments = (codes "argo-operator" ∷ []); replaces = (Some (codes "argo.v1.2.0")); phase = csv.Pending }); owner = None; stamp = None; seen = 52 })); stamps = (record { namespace = codes "default"; plan = 7; step = 1 } ∷ []) })

-- what is seen before write 54
abbrev pub view_54 : View
view_54 = record { namespace = codes "default"; length = 53; slots = slot_7 ∷ slot_37 ∷ slot_51 ∷ slot_42 ∷ slot_39 ∷ slot_32 ∷ slot_52 ∷ slot_53 ∷ slot_12 ∷ slot_30 ∷ slot_50 ∷ slot_41 ∷ [] }

abbrev pub write_54 : Write
write_54 = record { by = writer.Phases; expect = 53; key = record { group = operators; kind = codes "ClusterServiceVersion"; namespace = codes "default"; name = codes "argo.v1.3.0" }; object = (Some (record { body = codes "body 8"; status = status.Csv (record { «package» = (Some (codes "argo")); version = codes "1.3.0"; owned = (record { name = codes "apps.argo.io"; version = codes "v1"; kind = codes "App" } ∷ []); needed = []; deployments = (codes "argo-operator" ∷ []); replaces = (Some (codes "argo.v1.2.0")); phase = csv.InstallReady }); owner = None; stamp = None; seen = 53 })) }

abbrev slot_54 : Key × Slot
slot_54 = (record { group = operators; kind = codes "ClusterServiceVersion"; namespace = codes "default"; name = codes "argo.v1.3.0" }, record { version = 54; object = (Some (record { body = codes "body 8"; status = status.Csv (record { «package» = (Some (codes "argo")); version = codes "1.3.0"; owned = (record { name = codes "apps.argo.io"; version = codes "v1"; kind = codes "App" } ∷ []); needed = []; deployments = (codes "argo-operator" ∷ []); replaces = (Some (codes "argo.v1.2.0")); phase = csv.InstallReady }); owner = None; stamp = None; seen = 53 })); stamps = (record { namespace = codes "default"; plan = 7; step = 1 } ∷ []) })

-- what is seen before write 55
abbrev pub view_55 : View
view_55 = record { namespace = codes "default"; length = 54; slots = slot_7 ∷ slot_37 ∷ slot_51 ∷ slot_42 ∷ slot_39 ∷ slot_32 ∷ slot_52 ∷ slot_54 ∷ slot_12 ∷ slot_30 ∷ slot_50 ∷ slot_41 ∷ [] }

abbrev pub write_55 : Write
write_55 = record { by = writer.Phases; expect = 37; key = record { group = codes "apps"; kind = codes "Deployment"; namespace = codes "default"; name = codes "argo-operator" }; object = (Some (record { body = []; status = status.Deployment readiness.Waiting; owner = (Some (codes "argo.v1.3.0")); stamp = None; seen = 54 })) }

abbrev slot_55 : Key × Slot
slot_55 = (record { group = codes "apps"; kind = codes "Deployment"; namespace = codes "default"; name = codes "argo-operator" }, record { version = 55; object = (Some (record { body = []; status = status.Deployment readiness.Waiting; owner = (Some (codes "argo.v1.3.0")); stamp = None; seen = 54 })); stamps = [] })

-- what is seen before write 56
abbrev pub view_56 : View
view_56 = record { namespace = codes "default"; length = 55; slots = slot_7 ∷ slot_55 ∷ slot_51 ∷ slot_42 ∷ slot_39 ∷ slot_32 ∷ slot_52 ∷ slot_54 ∷ slot_12 ∷ slot_30 ∷ slot_50 ∷ slot_41 ∷ [] }

abbrev pub write_56 : Write
write_56 = record { by = writer.Phases; expect = 54; key = record { group = operators; kind = codes "ClusterServiceVersion"; namespace = codes "default"; name = codes "argo.v1.3.0" }; object = (Some (record { body = codes "body 8"; status = status.Csv (record { «package» = (Some (codes "argo")); version = codes "1.3.0"; owned = (record { name = codes "apps.argo.io"; version = codes "v1"; kind = codes "App" } ∷ []); needed = []; deployments = (codes "argo-operator" ∷ []); replaces = (Some (codes "argo.v1.2.0")); phase = csv.Installing }); owner = None; stamp = None; seen = 55 })) }

abbrev slot_58 : Key × Slot
slot_58 = (record { group = codes "apps"; kind = codes "Deployment"; namespace = codes "default"; name = codes "argo-operator" }, record { version = 58; object = (Some (record { body = []; status = status.Deployment readiness.Ready; owner = (Some (codes "argo.v1.3.0")); stamp = None; seen = 57 })); stamps = [] })

abbrev slot_56 : Key × Slot
slot_56 = (record { group = operators; kind = codes "ClusterServiceVersion"; namespace = codes "default"; name = codes "argo.v1.3.0" }, record { version = 56; object = (Some (record { body = codes "body 8"; status = status.Csv (record { «package» = (Some (codes "argo")); version = codes "1.3.0"; owned = (record { name = codes "apps.argo.io"; version = codes "v1"; kind = codes "App" } ∷ []); needed = []; deployments = (codes "argo-operator" ∷ []); replaces = (Some (codes "argo.v1.2.0")); phase = csv.Installing }); owner = None; stamp = None; seen = 55 })); stamps = (record { namespace = codes "default"; plan = 7; step = 1 } ∷ []) })

abbrev slot_57 : Key × Slot
slot_57 = (record { group = operators; kind = codes "Subscription"; namespace = codes "default"; name = codes "argo" }, record { version = 57; object = (Some (record { body = codes "body 3"; status = status.Subscription (record { spec = record { «package» = codes "argo"; channel = None; source = codes "cat"; source_namespace = codes "olm"; starting = None; manual = false }; state = sub.AtLatestKnown }); owner = None; stamp = None; seen = 56 })); stamps = [] })

-- what is seen before write 59
abbrev pub view_59 : View
view_59 = record { namespace = codes "default"; length = 58; slots = slot_7 ∷ slot_58 ∷ slot_51 ∷ slot_42 ∷ slot_39 ∷ slot_32 ∷ slot_52 ∷ slot_56 ∷ slot_12 ∷ slot_30 ∷ slot_50 ∷ slot_57 ∷ [] }

abbrev pub write_59 : Write
write_59 = record { by = writer.Phases; expect = 56; key = record { group = operators; kind = codes "ClusterServiceVersion"; namespace = codes "default"; name = codes "argo.v1.3.0" }; object = (Some (record { body = codes "body 8"; status = status.Csv (record { «package» = (Some (codes "argo")); version = codes "1.3.0"; owned = (record { name = codes "apps.argo.io"; version = codes "v1"; kind = codes "App" } ∷ []); needed = []; deployments = (codes "argo-operator" ∷ []); replaces = (Some (codes "argo.v1.2.0")); phase = csv.Succeeded }); owner = None; stamp = None; seen = 58 })) }

abbrev slot_60 : Key × Slot
slot_60 = (record { group = local; kind = codes "Resolution"; namespace = codes "default"; name = codes "current" }, record { version = 60; object = (Some (record { body = []; status = status.Resolution a_resolution; owner = None; stamp = None; seen = 59 })); stamps = [] })

abbrev slot_59 : Key × Slot
slot_59 = (record { group = operators; kind = codes "ClusterServiceVersion"; namespace = codes "default"; name = codes "argo.v1.3.0" }, record { version = 59; object = (Some (record { body = codes "body 8"; status = status.Csv (record { «package» = (Some (codes "argo")); version = codes "1.3.0"; owned = (record { name = codes "apps.argo.io"; version = codes "v1"; kind = codes "App" } ∷ []); needed = []; deployments = (codes "argo-operator" ∷ []); replaces = (Some (codes "argo.v1.2.0")); phase = csv.Succeeded }); owner = None; stamp = None; seen = 58 })); stamps = (record { namespace = codes "default"; plan = 7; step = 1 } ∷ []) })

-- what is seen before write 61
abbrev pub view_61 : View
view_61 = record { namespace = codes "default"; length = 60; slots = slot_7 ∷ slot_58 ∷ slot_60 ∷ slot_42 ∷ slot_39 ∷ slot_32 ∷ slot_52 ∷ slot_59 ∷ slot_12 ∷ slot_30 ∷ slot_50 ∷ slot_57 ∷ [] }

abbrev pub write_61 : Write
write_61 = record { by = writer.Phases; expect = 32; key = record { group = operators; kind = codes "ClusterServiceVersion"; namespace = codes "default"; name = codes "argo.v1.0.0" }; object = (Some (record { body = codes "body 2"; status = status.Csv (record { «package» = (Some (codes "argo")); version = codes "1.0.0"; owned = (record { name = codes "apps.argo.io"; version = codes "v1"; kind = codes "App" } ∷ []); needed = []; deployments = (codes "argo-operator" ∷ []); replaces = None; phase = csv.Deleting }); owner = None; stamp = None; seen = 60 })) }

abbrev slot_61 : Key × Slot
slot_61 = (record { group = operators; kind = codes "ClusterServiceVersion"; namespace = codes "default"; name = codes "argo.v1.0.0" }, record { version = 61; object = (Some (record { body = codes "body 2"; status = status.Csv (record { «package» = (Some (codes "argo")); version = codes "1.0.0"; owned = (record { name = codes "apps.argo.io"; version = codes "v1"; kind = codes "App" } ∷ []); needed = []; deployments = (codes "argo-operator" ∷ []); replaces = None; phase = csv.Deleting }); owner = None; stamp = None; seen = 60 })); stamps = (record { namespace = codes "default"; plan = 1; step = 1 } ∷ []) })

-- what is seen before write 62
abbrev pub view_62 : View
view_62 = record { namespace = codes "default"; length = 61; slots = slot_7 ∷ slot_58 ∷ slot_60 ∷ slot_42 ∷ slot_39 ∷ slot_61 ∷ slot_52 ∷ slot_59 ∷ slot_12 ∷ slot_30 ∷ slot_50 ∷ slot_57 ∷ [] }

abbrev pub write_62 : Write
write_62 = record { by = writer.Phases; expect = 52; key = record { group = operators; kind = codes "ClusterServiceVersion"; namespace = codes "default"; name = codes "argo.v1.2.0" }; object = (Some (record { body = codes "body 5"; status = status.Csv (record { «package» = (Some (codes "argo")); version = codes "1.2.0"; owned = (record { name = codes "apps.argo.io"; version = codes "v1"; kind = codes "App" } ∷ []); needed = []; deployments = (codes "argo-operator" ∷ []); replaces = (Some (codes "argo.v1.0.0")); phase = csv.Deleting }); owner = None; stamp = None; seen = 61 })) }

abbrev slot_62 : Key × Slot
slot_62 = (record { group = operators; kind = codes "ClusterServiceVersion"; namespace = codes "default"; name = codes "argo.v1.2.0" }, record { version = 62; object = (Some (record { body = codes "body 5"; status = status.Csv (record { «package» = (Some (codes "argo")); version = codes "1.2.0"; owned = (record { name = codes "apps.argo.io"; version = codes "v1"; kind = codes "App" } ∷ []); needed = []; deployments = (codes "argo-operator" ∷ []); replaces = (Some (codes "argo.v1.0.0")); phase = csv.Deleting }); owner = None; stamp = None; seen = 61 })); stamps = (record { namespace = codes "default"; plan = 4; step = 1 } ∷ []) })

-- what is seen before write 63
abbrev pub view_63 : View
view_63 = record { namespace = codes "default"; length = 62; slots = slot_7 ∷ slot_58 ∷ slot_60 ∷ slot_42 ∷ slot_39 ∷ slot_61 ∷ slot_62 ∷ slot_59 ∷ slot_12 ∷ slot_30 ∷ slot_50 ∷ slot_57 ∷ [] }

abbrev pub write_63 : Write
write_63 = record { by = writer.Phases; expect = 61; key = record { group = operators; kind = codes "ClusterServiceVersion"; namespace = codes "default"; name = codes "argo.v1.0.0" }; object = None }

abbrev slot_63 : Key × Slot
slot_63 = (record { group = operators; kind = codes "ClusterServiceVersion"; namespace = codes "default"; name = codes "argo.v1.0.0" }, record { version = 63; object = None; stamps = (record { namespace = codes "default"; plan = 1; step = 1 } ∷ []) })

-- what is seen before write 64
abbrev pub view_64 : View
view_64 = record { namespace = codes "default"; length = 63; slots = slot_7 ∷ slot_58 ∷ slot_60 ∷ slot_42 ∷ slot_39 ∷ slot_63 ∷ slot_62 ∷ slot_59 ∷ slot_12 ∷ slot_30 ∷ slot_50 ∷ slot_57 ∷ [] }

abbrev pub write_64 : Write
write_64 = record { by = writer.Phases; expect = 62; key = record { group = operators; kind = codes "ClusterServiceVersion"; namespace = codes "default"; name = codes "argo.v1.2.0" }; object = None }
