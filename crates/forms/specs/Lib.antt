-- The forms of a chart in a text: which stands at a place, what may stand behind a chart (Forms), and laws (Laws).
pub mod Forms
pub mod Laws
