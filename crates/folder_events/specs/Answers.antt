-- What comes of a `catalog` event whose folder gives no text.
use Rattle.std.specs.Prelude.{Bool, true, false}
use Rattle.olm_io.specs.declared.traits.FolderFault.TheVariants as folder
use Rattle.fbc_read.specs.declared.bodies.BodyFault.{BodyFault}
use Rattle.fbc_read.specs.declared.bodies.BodyFault.TheVariants.{Folder, Memory}
use Rattle.user_events.specs.declared.answers.UserAnswer.{UserAnswer}
use Rattle.user_events.specs.declared.answers.UserAnswer.TheVariants as answer
use Rattle.folder_events.specs.Catalogs.{body_words}

-- want of memory alone is free
abbrev pub is_free : UserAnswer → Bool
is_free answer.Memory = true
is_free _ = false

-- a call that failed, want of memory, or a refusal in the words of the fault
abbrev pub fault_answer : BodyFault → UserAnswer
fault_answer (Folder folder.Failed) = answer.FolderFailed
fault_answer (Folder folder.Memory) = answer.Memory
fault_answer Memory = answer.Memory
fault_answer fault = answer.Refused (body_words fault)
