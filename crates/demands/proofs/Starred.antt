-- The starred cases, proved: `starred`, every line by computation. Assumes nothing.
use mathlib.Core.Path.{refl}
use Rattle.meaning.specs.Questions.{first_edge}
use Rattle.meaning.specs.Walk.{next}
use Rattle.meaning.specs.Records.{records_within, records_at, run}
use Rattle.book.specs.Form.{trailer_of, letters_right, table_at, state_record_at, edge_record_at}
use Rattle.book.specs.Model.{list_from, first_edge as edge_before, table_book}
use Rattle.book.specs.Rules.{first_fault, own_faults, entered, check_book}
use Rattle.image.specs.Form.{place_at, edge_at, trailer_of as imageTrailer, has_letters}
use Rattle.image.specs.Rules.{trailer_right, start_right, other_right, place_right, places_fault, edge_right}
use Rattle.image.specs.Rules.{events_fault, edges_fault, image_rules}
use Rattle.image.specs.Questions.{seek}
use Rattle.image.specs.Calls.{checked_first, run_answer, run_memory, list_bytes}
use Rattle.lists.specs.Whole.{records_from}
use Rattle.lists.specs.Short.{keep, short, short_answer, short_memory}
use Rattle.compile.specs.Bytes.{place_of, places_below, edges_below, image_bytes}
use Rattle.compile.specs.Answer.{chains_of, compile_answer, compile_memory}
use Rattle.demands.specs.Starred.{Starred}

-- a line of the table, and those after it
infixr 4 ◌&◌
◌&◌ : {A B : Type 0} → A → B → A × B
x & y = (x, y)

-- a row for each of the books A, B, C, D and the one state, and one for the refusals
pub starred : Starred
unfolding trailer_of letters_right table_at state_record_at edge_record_at first_fault own_faults entered check_book list_from edge_before
    table_book first_edge chains_of place_of places_below edges_below image_bytes compile_answer compile_memory
    place_at edge_at imageTrailer has_letters trailer_right start_right other_right place_right places_fault edge_right events_fault
    edges_fault image_rules checked_first seek next records_within records_at run run_answer run_memory list_bytes
    records_from keep short short_answer short_memory
starred =
    refl & refl & refl & refl & (refl, refl) & (refl, refl) & (refl, refl) &
    refl & (refl, refl) &
    refl & (refl, refl) & (refl, refl) & (refl, refl) &
    refl & refl & refl & (refl, refl) & (refl, refl) &
    refl & refl &
    (refl, refl, refl) & (refl, refl, refl) & (refl, refl, refl) & tt
