-- The laws that the proofs of this crate cite. Other crates cite those of AcceptedLaws.

-- one line: what its numbers say
pub mod ParseLaws
-- the line that is due
pub mod BuildLaws
-- the lines of a sheet
pub mod ReadLaws
-- an accepted sheet
pub mod AcceptedLaws
-- the text by its lines
pub mod TextLaws
pub mod ShortLaws
