-- The course that calls of a put make, and what is said of their paths and replies.
use Rattle.std.specs.Prelude.{◌≡◌, ⊤, ℕ, ◌+◌, List, [], ◌∷◌, true}
use Rattle.std.specs.List.{list_any}
use Rattle.nl_tree.specs.declared.call.Call.{Call}
use Rattle.nl_tree.specs.declared.call.Call.TheVariants.{Create, Rename, Write}
use Rattle.nl_turns.specs.History.{Opening}
use Rattle.nl_spec_headline.specs.Course.{Course, RepliedLine}
use Rattle.nl_put_tree.specs.Putting.{is_fault}
use Rattle.nl_cmd_course.specs.Asking.{Asked, line_of}

abbrev pub answers_from : ℕ → Asked → List RepliedLine
answers_from number [] = []
answers_from number ((call, reply) ∷ asked) = record { line = line_of number call; reply = reply; bytes = [] } ∷ answers_from (number + 1) asked

-- the path of a call on the file of its own
abbrev pub own_of : Call → List (List ℕ)
own_of (Create own) = own
own_of (Write own from bytes) = own
own_of (Rename own path) = own
own_of _ = []

abbrev pub NamesOwn : Call → Type 0
NamesOwn (Create own) = ⊤
NamesOwn (Write own from bytes) = ⊤
NamesOwn (Rename own path) = ⊤
NamesOwn _ = ⊥

-- some call was answered by a fault reply
abbrev pub MetFault : Asked → Type 0
MetFault asked = list_any (λ x. is_fault x.1) asked ≡ true

-- the course of the calls
abbrev pub course_of : Opening → Asked → Course
course_of opening asked =
    record { shape = opening.shape; count = opening.count; tree = opening.tree; next_stamp = opening.next_stamp; answers = answers_from 1 asked }
