-- The letters of a run.
use Rattle.std.specs.Prelude.{ℕ}
use Rattle.noninterference.specs.declared.answer.Letter.{Letter}
use Rattle.noninterference.specs.declared.answer.Letter.TheVariants.{Done, Refused, Told, Marred}

-- S when all steps are done, R after a refusal, T after a stain told, M after a marred end: these letters, as bytes.
abbrev pub letter_byte : Letter → ℕ
letter_byte Done = 83
letter_byte Refused = 82
letter_byte Told = 84
letter_byte Marred = 77
