-- The rooms that the program lends are made once, before it knows the map: long enough for every map that can be used.
use Rattle.std.specs.Prelude.{◌*◌, ◌≤◌, length}
use Rattle.answering.specs.Rooms.{Rooms}
use Rattle.mapuse.specs.Use.{greatest_used_cells}

pub record EnoughRoom (r : Rooms) : Type 0 where
  pub costs : greatest_used_cells ≤ length r.costs
  pub work : 2 * greatest_used_cells ≤ length r.work
  pub route : greatest_used_cells ≤ length r.route
