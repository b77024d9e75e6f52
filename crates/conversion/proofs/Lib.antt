-- The laws that the proofs of this crate cite.

-- lists by index
pub mod ListLaws
-- how many tasks have W
pub mod CountLaws
-- the tasks and files of the converted job, from what the accessors read
pub mod ConvertedLaws
-- the converted job stored task by task and file by file
pub mod StoredLaws
-- what is kept of a schedule
pub mod StripLaws
