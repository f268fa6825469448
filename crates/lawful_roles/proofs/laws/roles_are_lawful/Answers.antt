use Rattle.lawful_roles.proofs.Allowing.{kept_is_lawful}
use Rattle.lawful_roles.proofs.laws.roles_are_lawful.Goals as goal

pub returns : goal.returns
returns c =
    record {
      lawful = λ is_valid h accepts kept.
          kept_is_lawful is_valid c.plans_are_new.ensures.new c.writes_are_aside.ensures
          (c.users_writes_are_allowed.ensures is_valid accepts) c.grants_are_users_writes.ensures.kind c.grants_are_users_writes.ensures.stamp h kept;
    }
