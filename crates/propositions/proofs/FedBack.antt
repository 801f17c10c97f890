-- What a whole feeds back counts as if the environment had offered it (`Laws`). The paper on mu-Charts has it of a
-- sequential chart as Proposition 1, of composed charts as Proposition 5 and of decomposed ones as Proposition 10.
pub mod Laws
pub mod Trees
