pub mod Gates
pub mod RecordForms
pub mod Standing
pub mod Walking
