-- Lemmas on numbers at places, bands, ranks, lists of edges and sets of places.
pub mod AtPlaces
pub mod RankLaws
pub mod BandLaws
pub mod ListLaws
pub mod PlaceSets
