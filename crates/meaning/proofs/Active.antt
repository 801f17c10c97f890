-- Which charts are active in a step (RULES 5.3), told by the states before and after it, and what a part puts out in it
-- (RULES 5.4), told by its places. Laws over a tree are in Active/Laws.antt, those over files in Laws/Activity.antt.
pub mod Laws
