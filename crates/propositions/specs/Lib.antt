-- Two propositions of the paper on mu-Charts, for chart files: composition is symmetric (Exchange), and fed-back
-- signals count as the environment's (FedBack). Each begins with its definitions; its promises are under its Laws.
-- Examples has what the two do not say.
-- Laws that are named here and not declared below lie in proofs/.
pub mod Exchange
pub mod FedBack
