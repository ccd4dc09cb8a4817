-- The queue of times as the definition has it: a list, oldest first. Assumes nothing.
use Rattle.std.specs.Prelude.{[], ◌∷◌, ◌++◌, Float, take}
use Rattle.mania.specs.LimitedQueue as Queue
use Rattle.density.specs.declared.times.Density.{Density}

-- the first `len` of the array
unfoldable pub queued : Density → Queue.Density
queued d = record { times = take d.len d.times; value = d.value }

-- `push`: one more time, and the density as it was
unfoldable pub pushed : Float → Queue.Density → Queue.Density
pushed time d = record { times = Queue.last_seven (d.times ++ time ∷ []); value = d.value }
