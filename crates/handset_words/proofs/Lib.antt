-- A refusal leaves all that a call was lent as it was.
pub mod Left
-- What a reader of messages tells.
pub mod Reading
