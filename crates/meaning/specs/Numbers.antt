-- Every size and every answer's number of document 01, named once.
use Rattle.std.specs.Prelude.{ℕ, ◌-◌}

-- ---- sizes of a text, all inclusive ("The text")

unfoldable pub text_size : ℕ
text_size = 32768

abbrev pub name_size : ℕ
name_size = 40

abbrev pub module_limit : ℕ
module_limit = 64

abbrev pub import_limit : ℕ
import_limit = 16

abbrev pub binding_limit : ℕ
binding_limit = 4

abbrev pub pair_limit : ℕ
pair_limit = 32

abbrev pub argument_limit : ℕ
argument_limit = 8

abbrev pub condition_limit : ℕ
condition_limit = 8

-- a name outside brackets is 1 deep, each open bracket adds one
abbrev pub depth_limit : ℕ
depth_limit = 16

abbrev pub bracket_limit : ℕ
bracket_limit = depth_limit - 1

abbrev pub node_limit : ℕ
node_limit = 64

-- ---- sizes of a normal form ("The text")

abbrev pub parameter_room : ℕ
parameter_room = 8

abbrev pub item_room : ℕ
item_room = 512

abbrev pub equation_room : ℕ
equation_room = 256

-- and of the normal forms of all modules evaluated in a call together
abbrev pub item_total : ℕ
item_total = 1024

abbrev pub equation_total : ℕ
equation_total = 512

abbrev pub node_total : ℕ
node_total = 4096

-- ---- what is lent ("The numbers that come back", 19; "The listing")

-- the one size of the working memory, in words of 32 bits: docs/MEMORY.md has its layout
unfoldable pub memory_size : ℕ
memory_size = 1048576

-- the output that the program lends
unfoldable pub program_output : ℕ
program_output = 65536

-- ---- the numbers that come back

abbrev pub accepted : ℕ
accepted = 0

-- 1, 2: no token; token not allowed there
abbrev pub no_token_there : ℕ
no_token_there = 1

abbrev pub not_allowed : ℕ
not_allowed = 2

-- 3: name after `end` differs
abbrev pub other_end : ℕ
other_end = 3

-- 4: size of text exceeded
abbrev pub over_size : ℕ
over_size = 4

-- 5: module name declared twice
abbrev pub module_twice : ℕ
module_twice = 5

-- 6: asked module absent
abbrev pub asked_absent : ℕ
asked_absent = 6

-- 7, 8: named module absent; too late
abbrev pub named_absent : ℕ
named_absent = 7

abbrev pub named_late : ℕ
named_late = 8

-- 9: declared twice in one section
abbrev pub declared_twice : ℕ
declared_twice = 9

-- 10, 11: clash; overloading
abbrev pub clashing : ℕ
clashing = 10

abbrev pub overloading : ℕ
overloading = 11

-- 12, 13: variable; unavailable sort
abbrev pub bad_variable : ℕ
bad_variable = 12

abbrev pub bad_sort : ℕ
bad_sort = 13

-- 14: old name not visible, or given twice; new name an operator that does not fit
abbrev pub bad_renaming : ℕ
bad_renaming = 14

-- 15: parameter unknown or met twice
abbrev pub bad_parameter : ℕ
bad_parameter = 15

-- 17: ill-typed equation
abbrev pub ill_typed : ℕ
ill_typed = 17

-- 18: normal form over size
abbrev pub no_room : ℕ
no_room = 18

-- 19: listing longer than the lent output, or working memory too short
abbrev pub lent_short : ℕ
lent_short = 19

-- 21: bad listing line
abbrev pub bad_line : ℕ
bad_line = 21

-- 22, 23: a binding's pair whose formal name the parameter lacks; one whose formal name is paired twice
abbrev pub formal_absent : ℕ
formal_absent = 22

abbrev pub formal_twice : ℕ
formal_twice = 23

-- 24, 25, 26: a pair whose actual name is not visible; is of another kind; has not the type, an operator that does not fit included
abbrev pub actual_absent : ℕ
actual_absent = 24

abbrev pub other_kind : ℕ
other_kind = 25

abbrev pub other_type : ℕ
other_type = 26

-- 27: a formal without a pair
abbrev pub formal_unpaired : ℕ
formal_unpaired = 27

-- opens every definition of this file
unfoldable pub numbers_opened : Unit {0}
unfolding text_size memory_size program_output
numbers_opened = tt
