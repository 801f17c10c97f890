-- Laws of a chart and its lists: states (States), headings (Headings), transitions (Transitions), sequential charts
-- (Sequentials), where they begin in a text (Found), tokens (Tokens).
pub mod States
pub mod Headings
pub mod Transitions
pub mod Sequentials
pub mod Found
pub mod Tokens
