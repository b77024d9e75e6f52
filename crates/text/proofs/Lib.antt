-- The laws that the proofs of this crate cite, in the order to read them. Other crates cite those of FirstLineLaws, CutLaws,
-- DueLaws, SizeLaws and SinkLaws.
-- reading
pub mod FrontLaws
pub mod FirstLineLaws
pub mod LineAtLaws
pub mod ReadNumeralLaws
pub mod CutLaws
pub mod LineByLaws
pub mod DueLaws
-- writing
pub mod WroteLaws
pub mod WriteNumeralLaws
-- pieces, one behind the other: a form's, and a text's lines
pub mod SinkLaws
pub mod FillLaws
pub mod SizeLaws
