-- Laws of the rules. Demand 3 of songs: `Allowances` on draws, `Demand` on deck and lanes, from those of each generator (`EndLanes`, `CircleLanes`,
-- `SliderLanes`). Refusals: `Conditions`, from the refusals of each generator (`CircleEnds`, `SliderEnds`); `Sources`: where 9 and 10 arise;
-- `Reach`: why 9 and 10 don't come out of a song, from what each generator leaves (`CircleReach`, `SliderReach`; `Follows`); `Eight`, `Eleven`, and
-- `Refuses` the other way round. `Singles`: the claims of the single-object entry; `OneRule`: a walk's step is one. `CircleDeck`, `SliderDeck`: what the
-- next object meets; `Lists`: that this is a pattern with as many notes as its mask has ones. `Counts`, `MostNotes`: how many notes an object makes. `Limits`: how
-- many draws a search may make, `Own`: that it tells how many it made. `Ones`, `Frees`, `Masks`: the columns of a mask. `Back`: columns and positions.
-- `Examples`: computed on the definition. `Laws`: what code of other crates needs too.
pub mod Laws
pub mod Makes
pub mod Meets
pub mod Masks
pub mod Frees
pub mod Ones
pub mod Columns
pub mod Back
pub mod Bars
pub mod EndLanes
pub mod CircleLanes
pub mod SliderLanes
pub mod Allowances
pub mod Demand
pub mod Pigeons
pub mod Counts
pub mod CircleDeck
pub mod SliderDeck
pub mod Searching
pub mod NoteCounts
pub mod CircleEnds
pub mod CircleReach
pub mod SliderEnds
pub mod SliderReach
pub mod Lists
pub mod Conditions
pub mod Sources
pub mod Reach
pub mod Follows
pub mod Eleven
pub mod Eight
pub mod Refuses
pub mod Limits
pub mod Own
pub mod Numbers
pub mod Singles
pub mod OneRule
pub mod Computing
pub mod Examples
pub mod MostNotes
