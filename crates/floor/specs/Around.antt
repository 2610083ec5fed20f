-- What stands around a cell, for those who take all its steps: its place is worked out once, and its straight neighbours are looked at once.
use Rattle.std.specs.Prelude.{cond, List, ℕ, ltb, get_or}
use Rattle.floor.specs.declared.Around.{Around}
use Rattle.floor.specs.declared.Floor.{Floor}
use Rattle.floor.specs.declared.Place.{Place}
use Rattle.floor.specs.Place.{cells, place_of, cell_at, moved, on_map}
use Rattle.floor.specs.Step.{cuts_corner}

-- the weight at a place, 0 off the map
unfoldable pub weight_at : Floor → List ℕ → Place → ℕ
weight_at f m p = cond (on_map f p) (get_or m (cell_at f p) 0) 0

-- the weight of the neighbour of cell v in direction d, 0 off the map
abbrev pub weight_beside : Floor → List ℕ → ℕ → ℕ → ℕ
weight_beside f m v d = weight_at f m (moved (place_of f v) d)

-- the weights of cell v and of its neighbours in the directions N, E, S and W; all are 0 where v is no cell of the map
unfoldable pub around_of : Floor → List ℕ → ℕ → Around
around_of f m v =
    cond (ltb v (cells f))
    (record { weight = get_or m v 0; north = weight_beside f m v 0; east = weight_beside f m v 2; south = weight_beside f m v 4; west = weight_beside f m v 6 })
    (record { weight = 0; north = 0; east = 0; south = 0; west = 0 })

-- the weight of the cell that the step from v in direction d enters, 0 off the map and where the step cuts a corner
unfoldable pub weight_ahead : Floor → List ℕ → ℕ → ℕ → ℕ
weight_ahead f m v d = cond (cuts_corner f m d (place_of f v) (moved (place_of f v) d)) 0 (weight_beside f m v d)
