-- Why a module has to be asked again: every reason's number, named once. They are no answers' numbers.
use Rattle.std.specs.Prelude.{ℕ}

-- 1, 2: the asked module does not stand in the old specification; in the new
abbrev pub absent_before : ℕ
absent_before = 1

abbrev pub absent_now : ℕ
absent_now = 2

-- 3: the modules that it reaches are others, or stand in another order
abbrev pub reached_otherwise : ℕ
reached_otherwise = 3

-- 4: its own text changed, hidden or not
abbrev pub asked_changed : ℕ
asked_changed = 4

-- 5, 6, 7: the parameters of a reached module changed; its exports; its imports
abbrev pub parameters_changed : ℕ
parameters_changed = 5

abbrev pub exports_changed : ℕ
exports_changed = 6

abbrev pub imports_changed : ℕ
imports_changed = 7

-- 8: a module name that a reached module uses is missing in one specification only, or declared too late in one only
abbrev pub named_otherwise : ℕ
named_otherwise = 8
