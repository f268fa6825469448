-- Plans that go on.
use Rattle.std.proofs.Common.{refl, ◌∙◌, inl, inr, subst}
use Rattle.lawful_history.specs.Lawful.{StateLater, StepLater, PlanLater}
use Rattle.cluster_objects.specs.declared.plans.Step.{Step}
use Rattle.cluster_objects.specs.declared.plans.StepState.{StepState}
use Rattle.cluster_objects.specs.declared.plans.StepState.TheVariants.{Unknown, Aimed, Created, Present, Overtaken}
use Rattle.cluster_objects.specs.declared.plans.PlanStatus.{PlanStatus}

pub StateLater-refl : (s : StepState) → StateLater s s
StateLater-refl Unknown = tt
StateLater-refl (Aimed v) = inl refl
StateLater-refl Created = refl
StateLater-refl Present = refl
StateLater-refl Overtaken = refl

pub StateLater-trans : (a b c : StepState) → StateLater a b → StateLater b c → StateLater a c
StateLater-trans Unknown b c p q = tt
StateLater-trans (Aimed v) b c (inl p) q = subst (λ (x : StepState). StateLater x c) p q
StateLater-trans (Aimed v) b c (inr (inl p)) q = inr (inl (subst (λ (x : StepState). StateLater x c) p q))
StateLater-trans (Aimed v) b c (inr (inr p)) q = inr (inr (subst (λ (x : StepState). StateLater x c) p q))
StateLater-trans Created b c p q = subst (λ (x : StepState). StateLater x c) p q
StateLater-trans Present b c p q = subst (λ (x : StepState). StateLater x c) p q
StateLater-trans Overtaken b c p q = subst (λ (x : StepState). StateLater x c) p q

pub StepLater-refl : (s : Step) → StepLater s s
StepLater-refl s = record { key = refl; body = refl; made = refl; state = StateLater-refl s.state }

pub StepLater-trans : (a b c : Step) → StepLater a b → StepLater b c → StepLater a c
StepLater-trans a b c p q = record { key = q.key ∙ p.key; body = q.body ∙ p.body; made = q.made ∙ p.made; state = StateLater-trans a.state b.state c.state p.state q.state }

pub PlanLater-refl : (p : PlanStatus) → PlanLater p p
PlanLater-refl p = record { number = refl; manual = refl; approved = λ is. is; count = refl; steps = λ i s at. (s, at, StepLater-refl s) }

pub PlanLater-trans : (a b c : PlanStatus) → PlanLater a b → PlanLater b c → PlanLater a c
PlanLater-trans a b c p q = record {
  number = q.number ∙ p.number;
  manual = q.manual ∙ p.manual;
  approved = λ is. q.approved (p.approved is);
  count = q.count ∙ p.count;
  steps = λ i s at. let t = p.steps i s at in let u = q.steps i t.0 t.1 in (u.0, u.1, StepLater-trans s t.0 u.0 t.2 u.2);
}
