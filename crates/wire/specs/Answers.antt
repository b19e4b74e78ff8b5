-- Answers of a session in bytes. Assumes nothing.
--
--   row_bytes      a docket row in ten bytes
--   reply_bytes    an answer in bytes
--   answer_bytes   answers, one after another
use Rattle.std.specs.Prelude.{ℕ, cond, List, [], ◌∷◌, ◌++◌, length}
use Rattle.std.specs.List.{flat_map}
use Rattle.std.specs.Option.{unwrap_or}
use Rattle.model.specs.Docket.{Row}
use Rattle.model.specs.Runs.{Reply}
use Rattle.model.specs.Runs.Reply.{told, wrote, is, refused}
use Rattle.wire.specs.Numbers.{two, figure_bytes}

-- the item in two bytes, its figure before and its figure after in four each
abbrev pub row_bytes : Row → List ℕ
row_bytes w = two w.item ++ (figure_bytes w.before ++ figure_bytes w.after)

-- 1 and whether the state changed; 2, how many rows, and the rows; 3 and a figure; 4 and the number of a refusal
abbrev pub reply_bytes : Reply → List ℕ
reply_bytes (told b) = 1 ∷ cond b 1 0 ∷ []
reply_bytes (wrote rows) = (2 ∷ two (length rows)) ++ flat_map row_bytes rows
reply_bytes (is f) = 3 ∷ figure_bytes f
reply_bytes (refused n) = 4 ∷ unwrap_or n 0 ∷ []

-- one after another
abbrev pub answer_bytes : List Reply → List ℕ
answer_bytes replies = flat_map reply_bytes replies
