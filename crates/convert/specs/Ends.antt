-- What each case of an entry's answer means, with the buffer as it is then, and what the job's parts promise. Assumes nothing.
use Rattle.std.specs.Prelude.{ℕ, List, Result, Ok, Err}
use Rattle.rules.specs.Coded.{code}
use Rattle.random.specs.declared.Draws.{Draws}
use Rattle.random.specs.Play as Play
use Rattle.record.specs.declared.header.Counts.{Counts}
use Rattle.record.specs.Record.{song_of}
use Rattle.mania.specs.declared.Note.{Note}
use Rattle.mania.specs.Convert.{columns_of, difficulty_of, song_facts, beginning, walk}
use Rattle.mania.specs.Job.{Answer, Job, accepted, refusal}
use Rattle.mania.specs.Walked.{Stop, on_walk}
use Rattle.model.specs.Song.{Song}
use Rattle.walk.specs.declared.Song as Walk
use Rattle.convert.specs.declared.Converted.{Converted}
use Rattle.convert.specs.declared.JobRefused.{JobRefused}

-- what the code answers, and what it says by numbers
abbrev pub JobEnd : Type 0
JobEnd = Result Converted JobRefused

abbrev pub says : JobEnd → Answer
says (Ok r) = accepted r.length r.longest
says (Err r) = refusal (code r.refusal) r.object r.draws

-- a job's end
abbrev pub job_end : List ℕ → JobEnd → Job
job_end chart e = record { answer = says e; chart = chart }

-- the numbers that the walk takes of a song; the counts are the record's
abbrev pub numbers_of : Song → Counts → Walk.Song
numbers_of s n =
    record {
      columns = columns_of s;
      difficulty = difficulty_of s;
      multiplier = s.settings.multiplier;
      points = record { timing = n.timing; difficulty = n.difficulty; effect = n.effect };
    }

-- the same without points
abbrev pub without_points : Walk.Song → Walk.Song
without_points g = record { columns = g.columns; difficulty = g.difficulty; multiplier = g.multiplier; points = record { timing = 0; difficulty = 0; effect = 0 } }

-- the rule of the song's walk
abbrev pub song_rule : List ℕ → ℕ → Draws → Play.Answer Stop (List (List Note))
song_rule bytes room d =
    on_walk (walk (song_facts (song_of bytes)) (columns_of (song_of bytes)) room 0 beginning (song_of bytes).objects) d
