-- Small captures, and what is told of each. Assumes nothing.
use Prim.Native.Nat.{ℕ, zero, suc}
use mathlib.Core.Path.{◌≡◌, refl}
use mathlib.Core.List.{List, [], ◌∷◌, ◌++◌}
use Rattle.line.specs.Text.{ascii}
use Rattle.grammar.specs.Words.{same, lower, name_of}
use Rattle.grammar.specs.Signals.{which_of, width_of, full_of, size_of}
use Rattle.grammar.specs.Values.{above, digit_on, digits_from}
use Rattle.grammar.specs.Times.{time_by, time_on, time_from, time_of}
use Rattle.grammar.specs.Grammar.{in_heading, until_end, within, ours, fate, more_signals, declare, judged, closing, set_on, entry_on, changes_on, changed, apply, moved, timed, marked, passed, section, in_body, head_by, entered, listed, step_by, step}
use Rattle.grammar.specs.Reading.{later, begins, closed, byte_on, Said, Signals, Tick, Fault, repeated, told_by, told, phase_after, settled, settled_in, last_by, ending, said_by, read_by, said_over, read_over, said_last, answers, start_head, start, capture}

-- nothing is known of the eight but RC
abbrev rc : ℕ → ℕ → ℕ → Said
rc t v u = Tick t (0 ∷ 0 ∷ 0 ∷ 0 ∷ 0 ∷ v ∷ 0 ∷ 0 ∷ []) (127 ∷ 511 ∷ 1 ∷ 1 ∷ 255 ∷ u ∷ 1023 ∷ 1 ∷ [])

abbrev of : List ℕ → List Said
of s = capture 64 64 s

-- the declarations of RC
abbrev declared : List ℕ
declared = ascii "$var wire 3 ! rc $end $enddefinitions $end "

-- reading 2: no file
pub empty : of (ascii "") ≡ Fault 14 0 ∷ []
unfolding ascii same lower name_of which_of width_of full_of size_of above digit_on digits_from time_by time_on time_from time_of in_heading until_end within ours fate more_signals declare judged closing set_on entry_on changes_on changed apply moved timed marked passed section in_body head_by entered listed step_by step later begins closed byte_on repeated told_by told phase_after settled settled_in last_by ending said_by read_by said_over read_over said_last answers start_head start capture
empty = refl

-- reading 6: a word outside a section
pub no_dump : of (ascii "META $date $end") ≡ Fault 14 0 ∷ []
unfolding ascii same lower name_of which_of width_of full_of size_of above digit_on digits_from time_by time_on time_from time_of in_heading until_end within ours fate more_signals declare judged closing set_on entry_on changes_on changed apply moved timed marked passed section in_body head_by entered listed step_by step later begins closed byte_on repeated told_by told phase_after settled settled_in last_by ending said_by read_by said_over read_over said_last answers start_head start capture
no_dump = refl

-- reading 11: no mark, no record
pub no_mark : of (declared ++ ascii "b1 !") ≡ Signals 1 ∷ []
unfolding ascii same lower name_of which_of width_of full_of size_of above digit_on digits_from time_by time_on time_from time_of in_heading until_end within ours fate more_signals declare judged closing set_on entry_on changes_on changed apply moved timed marked passed section in_body head_by entered listed step_by step later begins closed byte_on repeated told_by told phase_after settled settled_in last_by ending said_by read_by said_over read_over said_last answers start_head start capture
no_mark = refl

-- reading 8: an unknown digit is unknown, and fills the left
pub unknown_digits : of (declared ++ ascii "#0 bx1 ! #1 b1X ! #2 bz !") ≡ Signals 1 ∷ rc 0 1 6 ∷ rc 1 2 1 ∷ rc 2 0 7 ∷ []
unfolding ascii same lower name_of which_of width_of full_of size_of above digit_on digits_from time_by time_on time_from time_of in_heading until_end within ours fate more_signals declare judged closing set_on entry_on changes_on changed apply moved timed marked passed section in_body head_by entered listed step_by step later begins closed byte_on repeated told_by told phase_after settled settled_in last_by ending said_by read_by said_over read_over said_last answers start_head start capture
unknown_digits = refl

-- reading 8: a short value is filled with 0 after 1
pub short_values : of (declared ++ ascii "#0 b1 ! #1 1! #2 b111 !") ≡ Signals 1 ∷ rc 0 1 0 ∷ rc 1 1 0 ∷ rc 2 7 0 ∷ []
unfolding ascii same lower name_of which_of width_of full_of size_of above digit_on digits_from time_by time_on time_from time_of in_heading until_end within ours fate more_signals declare judged closing set_on entry_on changes_on changed apply moved timed marked passed section in_body head_by entered listed step_by step later begins closed byte_on repeated told_by told phase_after settled settled_in last_by ending said_by read_by said_over read_over said_last answers start_head start capture
short_values = refl

-- reading 11: a gap repeats the values; the last tick is told
pub gap : of (declared ++ ascii "#5 b10 ! #7") ≡ Signals 1 ∷ rc 5 2 0 ∷ rc 6 2 0 ∷ rc 7 2 0 ∷ []
unfolding ascii same lower name_of which_of width_of full_of size_of above digit_on digits_from time_by time_on time_from time_of in_heading until_end within ours fate more_signals declare judged closing set_on entry_on changes_on changed apply moved timed marked passed section in_body head_by entered listed step_by step later begins closed byte_on repeated told_by told phase_after settled settled_in last_by ending said_by read_by said_over read_over said_last answers start_head start capture
gap = refl

-- reading 10: an equal mark goes on with the tick
pub equal_time : of (declared ++ ascii "#5 b10 ! #5 b11 !") ≡ Signals 1 ∷ rc 5 3 0 ∷ []
unfolding ascii same lower name_of which_of width_of full_of size_of above digit_on digits_from time_by time_on time_from time_of in_heading until_end within ours fate more_signals declare judged closing set_on entry_on changes_on changed apply moved timed marked passed section in_body head_by entered listed step_by step later begins closed byte_on repeated told_by told phase_after settled settled_in last_by ending said_by read_by said_over read_over said_last answers start_head start capture
equal_time = refl

-- 16 at its `#`; reading 12: the tick at hand is not told
pub back : of (declared ++ ascii "#5 b10 ! #4") ≡ Signals 1 ∷ Fault 16 52 ∷ []
unfolding ascii same lower name_of which_of width_of full_of size_of above digit_on digits_from time_by time_on time_from time_of in_heading until_end within ours fate more_signals declare judged closing set_on entry_on changes_on changed apply moved timed marked passed section in_body head_by entered listed step_by step later begins closed byte_on repeated told_by told phase_after settled settled_in last_by ending said_by read_by said_over read_over said_last answers start_head start capture
back = refl

-- reading 8: more digits than the width; the place is the item's first byte; the tick with the fault is not told
pub too_long : of (declared ++ ascii "#5 #6 b1000 !") ≡ Signals 1 ∷ rc 5 0 7 ∷ Fault 14 49 ∷ []
unfolding ascii same lower name_of which_of width_of full_of size_of above digit_on digits_from time_by time_on time_from time_of in_heading until_end within ours fate more_signals declare judged closing set_on entry_on changes_on changed apply moved timed marked passed section in_body head_by entered listed step_by step later begins closed byte_on repeated told_by told phase_after settled settled_in last_by ending said_by read_by said_over read_over said_last answers start_head start capture
too_long = refl

-- reading 3: the first declaration of a name counts
pub first_name : of (ascii "$var wire 3 ! rc $end $var wire 3 & RC[2:0] $end $enddefinitions $end #0 b1 ! b111 &") ≡ Signals 1 ∷ rc 0 1 0 ∷ []
unfolding ascii same lower name_of which_of width_of full_of size_of above digit_on digits_from time_by time_on time_from time_of in_heading until_end within ours fate more_signals declare judged closing set_on entry_on changes_on changed apply moved timed marked passed section in_body head_by entered listed step_by step later begins closed byte_on repeated told_by told phase_after settled settled_in last_by ending said_by read_by said_over read_over said_last answers start_head start capture
first_name = refl

-- reading 4: 14 at its `$var`
pub wrong_width : of (ascii " $var wire 4 ! rc $end $enddefinitions $end") ≡ Fault 14 1 ∷ []
unfolding ascii same lower name_of which_of width_of full_of size_of above digit_on digits_from time_by time_on time_from time_of in_heading until_end within ours fate more_signals declare judged closing set_on entry_on changes_on changed apply moved timed marked passed section in_body head_by entered listed step_by step later begins closed byte_on repeated told_by told phase_after settled settled_in last_by ending said_by read_by said_over read_over said_last answers start_head start capture
wrong_width = refl

-- reading 2: an item that the end cuts off
pub cut : of (declared ++ ascii "#0 b1") ≡ Signals 1 ∷ Fault 14 46 ∷ []
unfolding ascii same lower name_of which_of width_of full_of size_of above digit_on digits_from time_by time_on time_from time_of in_heading until_end within ours fate more_signals declare judged closing set_on entry_on changes_on changed apply moved timed marked passed section in_body head_by entered listed step_by step later begins closed byte_on repeated told_by told phase_after settled settled_in last_by ending said_by read_by said_over read_over said_last answers start_head start capture
cut = refl

-- reading 6: `$enddefinitions` is missing
pub no_end : of (ascii "$var wire 3 ! rc $end") ≡ Fault 14 21 ∷ []
unfolding ascii same lower name_of which_of width_of full_of size_of above digit_on digits_from time_by time_on time_from time_of in_heading until_end within ours fate more_signals declare judged closing set_on entry_on changes_on changed apply moved timed marked passed section in_body head_by entered listed step_by step later begins closed byte_on repeated told_by told phase_after settled settled_in last_by ending said_by read_by said_over read_over said_last answers start_head start capture
no_end = refl

-- reading 9: one identifier for two
pub two_of_ours : of (ascii "$var wire 3 ! rc $end $var wire 1 ! ba $end $enddefinitions $end #0 b1 !") ≡ Signals 2 ∷ Tick 0 (0 ∷ 0 ∷ 1 ∷ 0 ∷ 0 ∷ 1 ∷ 0 ∷ 0 ∷ []) (127 ∷ 511 ∷ 0 ∷ 1 ∷ 255 ∷ 0 ∷ 1023 ∷ 1 ∷ []) ∷ []
unfolding ascii same lower name_of which_of width_of full_of size_of above digit_on digits_from time_by time_on time_from time_of in_heading until_end within ours fate more_signals declare judged closing set_on entry_on changes_on changed apply moved timed marked passed section in_body head_by entered listed step_by step later begins closed byte_on repeated told_by told phase_after settled settled_in last_by ending said_by read_by said_over read_over said_last answers start_head start capture
two_of_ours = refl

-- and the value must fit both
pub must_fit_both : of (ascii "$var wire 3 ! rc $end $var wire 1 ! ba $end $enddefinitions $end #0 b11 !") ≡ Signals 2 ∷ Fault 14 68 ∷ []
unfolding ascii same lower name_of which_of width_of full_of size_of above digit_on digits_from time_by time_on time_from time_of in_heading until_end within ours fate more_signals declare judged closing set_on entry_on changes_on changed apply moved timed marked passed section in_body head_by entered listed step_by step later begins closed byte_on repeated told_by told phase_after settled settled_in last_by ending said_by read_by said_over read_over said_last answers start_head start capture
must_fit_both = refl

-- 17: an identifier that the pool doesn't hold
pub long_identifier : of (ascii "$var wire 3 0123456789012345678901234567890123456789012345678901234567890123456789 rc $end") ≡ Fault 17 0 ∷ []
unfolding ascii same lower name_of which_of width_of full_of size_of above digit_on digits_from time_by time_on time_from time_of in_heading until_end within ours fate more_signals declare judged closing set_on entry_on changes_on changed apply moved timed marked passed section in_body head_by entered listed step_by step later begins closed byte_on repeated told_by told phase_after settled settled_in last_by ending said_by read_by said_over read_over said_last answers start_head start capture
long_identifier = refl

-- ---- sixty_four signals and one more

unfoldable pub copies : ℕ → List ℕ → List ℕ
copies zero s = []
copies (suc n) s = s ++ copies n s

-- reading 5: the 65th is 15 at its `$var`
pub sixty_four : of (copies 64 (ascii "$var wire 1 ! q $end ") ++ ascii "$enddefinitions $end") ≡ Signals 0 ∷ []
unfolding ascii same lower name_of which_of width_of full_of size_of above digit_on digits_from time_by time_on time_from time_of in_heading until_end within ours fate more_signals declare judged closing set_on entry_on changes_on changed apply moved timed marked passed section in_body head_by entered listed step_by step later begins closed byte_on repeated told_by told phase_after settled settled_in last_by ending said_by read_by said_over read_over said_last answers start_head start capture copies
sixty_four = refl

pub sixty_five : of (copies 65 (ascii "$var wire 1 ! q $end ")) ≡ Fault 15 1344 ∷ []
unfolding ascii same lower name_of which_of width_of full_of size_of above digit_on digits_from time_by time_on time_from time_of in_heading until_end within ours fate more_signals declare judged closing set_on entry_on changes_on changed apply moved timed marked passed section in_body head_by entered listed step_by step later begins closed byte_on repeated told_by told phase_after settled settled_in last_by ending said_by read_by said_over read_over said_last answers start_head start capture copies
sixty_five = refl

-- and 14 where it is of the wrong width too
pub lower_number : of (copies 64 (ascii "$var wire 1 ! q $end ") ++ ascii "$var wire 1 ! rc $end") ≡ Fault 14 1344 ∷ []
unfolding ascii same lower name_of which_of width_of full_of size_of above digit_on digits_from time_by time_on time_from time_of in_heading until_end within ours fate more_signals declare judged closing set_on entry_on changes_on changed apply moved timed marked passed section in_body head_by entered listed step_by step later begins closed byte_on repeated told_by told phase_after settled settled_in last_by ending said_by read_by said_over read_over said_last answers start_head start capture copies
lower_number = refl
