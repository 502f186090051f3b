-- Where reading is, as six words, so that the functions of terms hand it on as one reference: one more than the number of a refusal and else 0, the
-- kind, the start and the end of the next token (the start is where a refusal is), nodes and entries. Any six words say something.
use Rattle.std.specs.Prelude.{ℕ, ◌-◌, ◌%◌, List, Ok, eqb, get_or}
use Rattle.meaning.specs.Lists.{pick}
use Rattle.read_steps.specs.Model.{Reading, misread, place}

unfoldable pub kept : List ℕ → Reading
kept w =
    pick (eqb (get_or w 0 0) 0)
    (Ok (place (record { kind = get_or w 1 0 % 256; start = get_or w 2 0; end = get_or w 3 0 }) (get_or w 4 0) (get_or w 5 0)))
    (misread ((get_or w 0 0 - 1) % 256) (get_or w 2 0))
