-- The directions and the filler are put one after the other.
use Rattle.putting.proofs.Puts.{put_both}
use Rattle.logentries.specs.Entry.{route_bytes}
use Rattle.logentries.proofs.put_route.Goals as goal

pub returns : goal.returns
unfolding route_bytes
returns c = rw (← c.route_size.ensures) (put_both c.put-end.ensures c.fill.ensures)
