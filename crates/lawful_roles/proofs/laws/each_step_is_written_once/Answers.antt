use Rattle.lawful_roles.proofs.laws.each_step_is_written_once.Goals as goal

pub returns : goal.returns
returns c =
    let lawful = c.roles_are_lawful.ensures.lawful in
    let once = c.steps_are_written_once.ensures in
    record {
      most = λ is_valid h stamp accepts kept. once.most is_valid h stamp (lawful is_valid h accepts kept);
      created = λ is_valid h a key plan i step accepts kept. once.created is_valid h a key plan i step (lawful is_valid h accepts kept);
      never = λ is_valid h stamp accepts kept. once.never is_valid h stamp (lawful is_valid h accepts kept);
      unapproved = λ is_valid h key plan i accepts kept. once.unapproved is_valid h key plan i (lawful is_valid h accepts kept);
    }
