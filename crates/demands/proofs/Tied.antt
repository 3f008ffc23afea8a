-- The contracts that the page `Determined` writes out are those of the source: for each function, what its contract tells a
-- caller, of two outcomes for the same arguments, makes them one. A contract changed at its source and not on the page is
-- refused here. κs are the lifetimes, a the arguments, e and f the arguments at exit.
-- Of image::open and of the methods of Image and Walk, at the end, the clause of the source is the page's contract itself.
-- Assumes nothing.
use mathlib.Core.Path.{◌≡◌, refl}
use mathlib.Core.List.{List}
use Prim.Native.Nat.{ℕ}
use seplogic.Ra.Ura.{Ura}
use base.Logic.{SProp}
use prog.Memory.{Memory}
use prog.Routine.{Routine}
use types.Logic.{Logic}
use contract.Monad.{Fun, fact}
use contract.Lifetimes.{Lfts}
use borrow.Fn.Kinds.{Dens}
use denote.Ref.{Bor}
use Rattle.book.specs.declared.StateRecord.{StateRecord}
use Rattle.book.specs.declared.EdgeRecord.{EdgeRecord}
use Rattle.book.specs.declared.Counts.{Counts}
use Rattle.image.specs.declared.Counts.{Counts as ImageCounts}
use Rattle.image.specs.declared.open_image.Image.{Image}
use Rattle.image.specs.declared.Walk.{Walk}
use Rattle.image.specs.declared.Ran.{Ran}
use Rattle.compile.specs.declared.Made.{Made}
use Rattle.lists.specs.declared.Named.{Named}
use Rattle.std.specs.Prelude.{Option, Result}
use Rattle.meaning.specs.declared.Refusal.{Refusal}
use Rattle.wire.proofs.byte_at.Reads as wire-byte-at-reads
use Rattle.wire.proofs.byte_at.Kinds as wire-byte-at-kinds
use Rattle.wire.proofs.le16.Reads as wire-le16-reads
use Rattle.wire.proofs.le16.Kinds as wire-le16-kinds
use Rattle.wire.proofs.pair.Reads as wire-pair-reads
use Rattle.wire.proofs.pair.Kinds as wire-pair-kinds
use Rattle.wire.proofs.le32.Reads as wire-le32-reads
use Rattle.wire.proofs.le32.Kinds as wire-le32-kinds
use Rattle.wire.proofs.put_byte.Reads as wire-put-byte-reads
use Rattle.wire.proofs.put_byte.Kinds as wire-put-byte-kinds
use Rattle.wire.proofs.put16.Reads as wire-put16-reads
use Rattle.wire.proofs.put16.Kinds as wire-put16-kinds
use Rattle.wire.proofs.put32.Reads as wire-put32-reads
use Rattle.wire.proofs.put32.Kinds as wire-put32-kinds
use Rattle.book.proofs.table_at.Reads as book-table-at-reads
use Rattle.book.proofs.table_at.Kinds as book-table-at-kinds
use Rattle.book.proofs.Table.state_at.Reads as book-state-at-reads
use Rattle.book.proofs.Table.state_at.Kinds as book-state-at-kinds
use Rattle.book.proofs.Table.edge_at.Reads as book-edge-at-reads
use Rattle.book.proofs.Table.edge_at.Kinds as book-edge-at-kinds
use Rattle.book.proofs.Table.event_at.Reads as book-event-at-reads
use Rattle.book.proofs.Table.event_at.Kinds as book-event-at-kinds
use Rattle.book.proofs.Table.target_at.Reads as book-target-at-reads
use Rattle.book.proofs.Table.target_at.Kinds as book-target-at-kinds
use Rattle.book.proofs.check_book.Reads as book-check-book-reads
use Rattle.book.proofs.check_book.Kinds as book-check-book-kinds
use Rattle.book.proofs.Table.mark_of.Reads as book-mark-of-reads
use Rattle.book.proofs.Table.mark_of.Kinds as book-mark-of-kinds
use Rattle.book.proofs.Table.count_of.Reads as book-count-of-reads
use Rattle.book.proofs.Table.count_of.Kinds as book-count-of-kinds
use Rattle.book.proofs.Table.firsts.Reads as book-firsts-reads
use Rattle.book.proofs.Table.firsts.Kinds as book-firsts-kinds
use Rattle.book.proofs.Table.lead.Reads as book-lead-reads
use Rattle.book.proofs.Table.lead.Kinds as book-lead-kinds
use Rattle.book.proofs.Table.lead_rising.Reads as book-lead-rising-reads
use Rattle.book.proofs.Table.lead_rising.Kinds as book-lead-rising-kinds
use Rattle.image.proofs.check_image.Reads as image-check-image-reads
use Rattle.image.proofs.check_image.Kinds as image-check-image-kinds
use Rattle.image.proofs.ask_fallback.Reads as image-ask-fallback-reads
use Rattle.image.proofs.ask_fallback.Kinds as image-ask-fallback-kinds
use Rattle.image.proofs.ask_level.Reads as image-ask-level-reads
use Rattle.image.proofs.ask_level.Kinds as image-ask-level-kinds
use Rattle.image.proofs.ask_mark.Reads as image-ask-mark-reads
use Rattle.image.proofs.ask_mark.Kinds as image-ask-mark-kinds
use Rattle.image.proofs.ask_edge.Reads as image-ask-edge-reads
use Rattle.image.proofs.ask_edge.Kinds as image-ask-edge-kinds
use Rattle.image.proofs.step.Reads as image-step-reads
use Rattle.image.proofs.step.Kinds as image-step-kinds
use Rattle.image.proofs.next_in.Reads as image-next-in-reads
use Rattle.image.proofs.next_in.Kinds as image-next-in-kinds
use Rattle.image.proofs.run.Reads as image-run-reads
use Rattle.image.proofs.run.Kinds as image-run-kinds
use Rattle.compile.proofs.compile.Reads as compile-compile-reads
use Rattle.compile.proofs.compile.Kinds as compile-compile-kinds
use Rattle.lists.proofs.short_list.Reads as lists-short-list-reads
use Rattle.lists.proofs.short_list.Kinds as lists-short-list-kinds
use Rattle.lists.proofs.part_answer.Reads as lists-part-answer-reads
use Rattle.lists.proofs.part_answer.Kinds as lists-part-answer-kinds
use Rattle.lists.proofs.part.Reads as lists-part-reads
use Rattle.lists.proofs.part.Kinds as lists-part-kinds
use Rattle.lists.proofs.group.Reads as lists-group-reads
use Rattle.lists.proofs.group.Kinds as lists-group-kinds
use Rattle.lists.proofs.text.Text.put_header.Reads as lists-put-header-reads
use Rattle.lists.proofs.text.Text.put_header.Kinds as lists-put-header-kinds
use Rattle.lists.proofs.text.Text.put_line.Reads as lists-put-line-reads
use Rattle.lists.proofs.text.Text.put_line.Kinds as lists-put-line-kinds
use Rattle.lists.proofs.text.Text.put_lines.Reads as lists-put-lines-reads
use Rattle.lists.proofs.text.Text.put_lines.Kinds as lists-put-lines-kinds
use Rattle.lists.proofs.text.Text.put_last.Reads as lists-put-last-reads
use Rattle.lists.proofs.text.Text.put_last.Kinds as lists-put-last-kinds
use Rattle.lists.proofs.text.Text.put_refused.Reads as lists-put-refused-reads
use Rattle.lists.proofs.text.Text.put_refused.Kinds as lists-put-refused-kinds
use Rattle.lists.proofs.text.Text.put_byte.Reads as lists-put-byte-reads
use Rattle.lists.proofs.text.Text.put_byte.Kinds as lists-put-byte-kinds
use Rattle.lists.proofs.text.Text.put_bytes.Reads as lists-put-bytes-reads
use Rattle.lists.proofs.text.Text.put_bytes.Kinds as lists-put-bytes-kinds
use Rattle.lists.proofs.text.Text.put_decimal.Reads as lists-put-decimal-reads
use Rattle.lists.proofs.text.Text.put_decimal.Kinds as lists-put-decimal-kinds
use Rattle.image.specs.contracts.open as image-open-fn
use Rattle.image.specs.contracts.Image.fallback as image-fallback-fn
use Rattle.image.specs.contracts.Image.level as image-level-fn
use Rattle.image.specs.contracts.Image.mark as image-mark-fn
use Rattle.image.specs.contracts.Image.edge as image-edge-fn
use Rattle.image.specs.contracts.Walk.next as walk-next-fn
use Rattle.demands.specs.Determined.{Opened, FallbackIs, LevelIs, MarkIs, EdgeLeads, NextIs}
use Rattle.demands.proofs.Determined.{determined}

wire_byte_at : (κs : Lfts 1) (a : Dens κs wire-byte-at-kinds.ps) (r s : ℕ) (e f : _)
    → wire-byte-at-reads.Learnt κs a r e → wire-byte-at-reads.Learnt κs a s f → r ≡ s
wire_byte_at κs a r s e f h k = determined.of_wire.byte_at a.0.now a.1.0 r s h k

wire_le16 : (κs : Lfts 1) (a : Dens κs wire-le16-kinds.ps) (r s : ℕ) (e f : _)
    → wire-le16-reads.Learnt κs a r e → wire-le16-reads.Learnt κs a s f → r ≡ s
wire_le16 κs a r s e f h k = determined.of_wire.le16 a.0.now a.1.0 r s h k

wire_pair : (κs : Lfts 0) (a : Dens κs wire-pair-kinds.ps) (r s : ℕ) (e f : _)
    → wire-pair-reads.Learnt κs a r e → wire-pair-reads.Learnt κs a s f → r ≡ s
wire_pair κs a r s e f h k = determined.of_wire.pair a.0 a.1.0 r s h k

wire_le32 : (κs : Lfts 1) (a : Dens κs wire-le32-kinds.ps) (r s : ℕ) (e f : _)
    → wire-le32-reads.Learnt κs a r e → wire-le32-reads.Learnt κs a s f → r ≡ s
wire_le32 κs a r s e f h k = determined.of_wire.le32 a.0.now a.1.0 r s h k

wire_put-byte : (κs : Lfts 1) (a : Dens κs wire-put-byte-kinds.ps) (r s e f : _)
    → wire-put-byte-reads.Learnt κs a r e → wire-put-byte-reads.Learnt κs a s f → e.0.now ≡ f.0.now
wire_put-byte κs a r s e f h k =
    determined.of_wire.put_byte a.0.now a.1.0 a.1.1.0 e.0.now f.0.now h k

wire_put16 : (κs : Lfts 1) (a : Dens κs wire-put16-kinds.ps) (r s e f : _)
    → wire-put16-reads.Learnt κs a r e → wire-put16-reads.Learnt κs a s f → e.0.now ≡ f.0.now
wire_put16 κs a r s e f h k =
    determined.of_wire.put16 a.0.now a.1.0 a.1.1.0 e.0.now f.0.now h k

wire_put32 : (κs : Lfts 1) (a : Dens κs wire-put32-kinds.ps) (r s e f : _)
    → wire-put32-reads.Learnt κs a r e → wire-put32-reads.Learnt κs a s f → e.0.now ≡ f.0.now
wire_put32 κs a r s e f h k =
    determined.of_wire.put32 a.0.now a.1.0 a.1.1.0 e.0.now f.0.now h k

book_table_at : (κs : Lfts 1) (a : Dens κs book-table-at-kinds.ps) (r s : ℕ) (e f : _)
    → book-table-at-reads.Learnt κs a r e → book-table-at-reads.Learnt κs a s f → r ≡ s
book_table_at κs a r s e f h k = determined.of_book.table_at_lem a.0.now r s h k

book_state_at : (κs : Lfts 1) (a : Dens κs book-state-at-kinds.ps) (r s : StateRecord) (e f : _)
    → book-state-at-reads.Learnt κs a r e → book-state-at-reads.Learnt κs a s f → r ≡ s
book_state_at κs a r s e f h k = determined.of_book.state_at_lem a.0.bytes.now a.1.0 r s h k

book_edge_at : (κs : Lfts 1) (a : Dens κs book-edge-at-kinds.ps) (r s : EdgeRecord) (e f : _)
    → book-edge-at-reads.Learnt κs a r e → book-edge-at-reads.Learnt κs a s f → r ≡ s
book_edge_at κs a r s e f h k = determined.of_book.edge_at_lem a.0.bytes.now a.0.states a.1.0 r s h k

book_event_at : (κs : Lfts 1) (a : Dens κs book-event-at-kinds.ps) (r s : ℕ) (e f : _)
    → book-event-at-reads.Learnt κs a r e → book-event-at-reads.Learnt κs a s f → r ≡ s
book_event_at κs a r s e f h k = determined.of_book.event_at a.0.bytes.now a.0.states a.1.0 r s h k

book_target_at : (κs : Lfts 1) (a : Dens κs book-target-at-kinds.ps) (r s : ℕ) (e f : _)
    → book-target-at-reads.Learnt κs a r e → book-target-at-reads.Learnt κs a s f → r ≡ s
book_target_at κs a r s e f h k = determined.of_book.target_at a.0.bytes.now a.0.states a.1.0 r s h k

book_check_book : (κs : Lfts 1) (a : Dens κs book-check-book-kinds.ps) (r s : Result Counts Refusal) (e f : _)
    → book-check-book-reads.Learnt κs a r e → book-check-book-reads.Learnt κs a s f → r ≡ s
book_check_book κs a r s e f h k = determined.of_book.check_book_lem a.0.now r s h k

book_mark_of : (κs : Lfts 1) (a : Dens κs book-mark-of-kinds.ps) (r s : ℕ) (e f : _)
    → book-mark-of-reads.Learnt κs a r e → book-mark-of-reads.Learnt κs a s f → r ≡ s
book_mark_of κs a r s e f h k = determined.of_book.mark_of a.0.bytes.now a.0.states a.1.0 r s h k

book_count_of : (κs : Lfts 1) (a : Dens κs book-count-of-kinds.ps) (r s : ℕ) (e f : _)
    → book-count-of-reads.Learnt κs a r e → book-count-of-reads.Learnt κs a s f → r ≡ s
book_count_of κs a r s e f h k = determined.of_book.count_of a.0.bytes.now a.0.states a.1.0 r s h k

book_firsts : (κs : Lfts 1) (a : Dens κs book-firsts-kinds.ps) (r s : List ℕ) (e f : _)
    → book-firsts-reads.Learnt κs a r e → book-firsts-reads.Learnt κs a s f → r ≡ s
book_firsts κs a r s e f h k = determined.of_book.firsts a.0.bytes.now a.0.states r s h k

book_lead : (κs : Lfts 2) (a : Dens κs book-lead-kinds.ps) (r s : Option ℕ) (e f : _)
    → book-lead-reads.Learnt κs a r e → book-lead-reads.Learnt κs a s f → r ≡ s
book_lead κs a r s e f h k =
    determined.of_book.lead a.0.bytes.now a.0.states a.1.0.now a.1.1.0 a.1.1.1.0 r s h k

book_lead_rising : (κs : Lfts 2) (a : Dens κs book-lead-rising-kinds.ps) (r s : Option ℕ) (e f : _) → book-lead-rising-reads.Asked κs a
    → book-lead-rising-reads.Learnt κs a r e → book-lead-rising-reads.Learnt κs a s f → r ≡ s
book_lead_rising κs a r s e f q h k =
    determined.of_book.lead_rising a.0.bytes.now a.0.states a.1.0.now a.1.1.0 a.1.1.1.0 q r s h k

image_check_image : (κs : Lfts 1) (a : Dens κs image-check-image-kinds.ps) (r s : Result ImageCounts Refusal) (e f : _)
    → image-check-image-reads.Learnt κs a r e → image-check-image-reads.Learnt κs a s f → r ≡ s
image_check_image κs a r s e f h k = determined.of_image.check_image_lem a.0.now r s h k

image_ask_fallback : (κs : Lfts 1) (a : Dens κs image-ask-fallback-kinds.ps) (r s : Result ℕ Refusal) (e f : _)
    → image-ask-fallback-reads.Learnt κs a r e → image-ask-fallback-reads.Learnt κs a s f → r ≡ s
image_ask_fallback κs a r s e f h k = determined.of_image.ask_fallback a.0.now a.1.0 r s h k

image_ask_level : (κs : Lfts 1) (a : Dens κs image-ask-level-kinds.ps) (r s : Result ℕ Refusal) (e f : _)
    → image-ask-level-reads.Learnt κs a r e → image-ask-level-reads.Learnt κs a s f → r ≡ s
image_ask_level κs a r s e f h k = determined.of_image.ask_level a.0.now a.1.0 r s h k

image_ask_mark : (κs : Lfts 1) (a : Dens κs image-ask-mark-kinds.ps) (r s : Result ℕ Refusal) (e f : _)
    → image-ask-mark-reads.Learnt κs a r e → image-ask-mark-reads.Learnt κs a s f → r ≡ s
image_ask_mark κs a r s e f h k = determined.of_image.ask_mark a.0.now a.1.0 r s h k

image_ask_edge : (κs : Lfts 1) (a : Dens κs image-ask-edge-kinds.ps) (r s : Result (Option ℕ) Refusal) (e f : _)
    → image-ask-edge-reads.Learnt κs a r e → image-ask-edge-reads.Learnt κs a s f → r ≡ s
image_ask_edge κs a r s e f h k = determined.of_image.ask_edge a.0.now a.1.0 a.1.1.0 r s h k

image_step : (κs : Lfts 1) (a : Dens κs image-step-kinds.ps) (r s : Result Walk Refusal) (e f : _)
    → image-step-reads.Learnt κs a r e → image-step-reads.Learnt κs a s f → r ≡ s
image_step κs a r s e f h k = determined.of_image.step a.0.now a.1.0 a.1.1.0 r s h k

image_next_in : (κs : Lfts 1) (a : Dens κs image-next-in-kinds.ps) (r s : Result Walk Refusal) (e f : _)
    → image-next-in-reads.Learnt κs a r e → image-next-in-reads.Learnt κs a s f → r ≡ s
image_next_in κs a r s e f h k =
    determined.of_image.next_in_lem a.0.now a.1.0 a.1.1.0 a.1.1.1.0 r s h k

image_run : (κs : Lfts 3) (a : Dens κs image-run-kinds.ps) (r s : Result Ran Refusal) (e f : _)
    → image-run-reads.Learnt κs a r e
    → image-run-reads.Learnt κs a s f → (r ≡ s) × (e.1.1.1.1.0.now ≡ f.1.1.1.1.0.now)
image_run κs a r s e f h k =
    determined.of_image.run a.0.now a.1.0 a.1.1.0 a.1.1.1.0.now a.1.1.1.1.0.now
    r s e.1.1.1.1.0.now f.1.1.1.1.0.now h k

compile_compile : (κs : Lfts 2) (a : Dens κs compile-compile-kinds.ps) (r s : Result Made Refusal) (e f : _)
    → compile-compile-reads.Learnt κs a r e
    → compile-compile-reads.Learnt κs a s f → (r ≡ s) × (e.1.0.now ≡ f.1.0.now)
compile_compile κs a r s e f h k =
    determined.of_compile.compile a.0.now a.1.0.now r s e.1.0.now f.1.0.now h k

lists_short_list : (κs : Lfts 2) (a : Dens κs lists-short-list-kinds.ps) (r s : Result ℕ Refusal) (e f : _)
    → lists-short-list-reads.Learnt κs a r e
    → lists-short-list-reads.Learnt κs a s f → (r ≡ s) × (e.1.0.now ≡ f.1.0.now)
lists_short_list κs a r s e f h k =
    determined.of_lists.short_list a.0.now a.1.0.now r s e.1.0.now f.1.0.now h k

lists_part_answer : (κs : Lfts 1) (a : Dens κs lists-part-answer-kinds.ps) (r s : Result Named Refusal) (e f : _)
    → lists-part-answer-reads.Learnt κs a r e → lists-part-answer-reads.Learnt κs a s f → r ≡ s
lists_part_answer κs a r s e f h k =
    determined.of_lists.part_answer_lem a.0.now a.1.0 a.1.1.0 a.1.1.1.0 r s h k

lists_part : (κs : Lfts 1) (a : Dens κs lists-part-kinds.ps) (r s : Bor (List ℕ)) (e f : _)
    → lists-part-reads.Learnt κs a r e → lists-part-reads.Learnt κs a s f → r.now ≡ s.now
lists_part κs a r s e f h k = determined.of_lists.part a.0.now a.1.0 a.1.1.0 a.1.1.1.0 r s h k

lists_group : (κs : Lfts 0) (a : Dens κs lists-group-kinds.ps) (r s : ℕ) (e f : _)
    → lists-group-reads.Learnt κs a r e → lists-group-reads.Learnt κs a s f → r ≡ s
lists_group κs a r s e f h k = determined.of_lists.group a.0 r s h k

lists_put_header : (κs : Lfts 2) (a : Dens κs lists-put-header-kinds.ps) (r s e f : _)
    → lists-put-header-reads.Learnt κs a r e → lists-put-header-reads.Learnt κs a s f
    → (e.0.now.at ≡ f.0.now.at) × (e.0.now.out.now ≡ f.0.now.out.now) × (e.0.now.out.ghost_name ≡ f.0.now.out.ghost_name)
lists_put_header κs a r s e f h k = determined.of_lists.put_header a.0.now e.0.now f.0.now h k

lists_put_line : (κs : Lfts 2) (a : Dens κs lists-put-line-kinds.ps) (r s e f : _)
    → lists-put-line-reads.Learnt κs a r e → lists-put-line-reads.Learnt κs a s f
    → (e.0.now.at ≡ f.0.now.at) × (e.0.now.out.now ≡ f.0.now.out.now) × (e.0.now.out.ghost_name ≡ f.0.now.out.ghost_name)
lists_put_line κs a r s e f h k = determined.of_lists.put_line a.0.now a.1.0 a.1.1.0 a.1.1.1.0 a.1.1.1.1.0 e.0.now f.0.now h k

lists_put_lines : (κs : Lfts 4) (a : Dens κs lists-put-lines-kinds.ps) (r s e f : _)
    → lists-put-lines-reads.Learnt κs a r e → lists-put-lines-reads.Learnt κs a s f
    → (e.0.now.at ≡ f.0.now.at) × (e.0.now.out.now ≡ f.0.now.out.now) × (e.0.now.out.ghost_name ≡ f.0.now.out.ghost_name)
lists_put_lines κs a r s e f h k = determined.of_lists.put_lines a.0.now a.1.0.now a.1.1.0.now e.0.now f.0.now h k

lists_put_last : (κs : Lfts 2) (a : Dens κs lists-put-last-kinds.ps) (r s e f : _)
    → lists-put-last-reads.Learnt κs a r e → lists-put-last-reads.Learnt κs a s f
    → (e.0.now.at ≡ f.0.now.at) × (e.0.now.out.now ≡ f.0.now.out.now) × (e.0.now.out.ghost_name ≡ f.0.now.out.ghost_name)
lists_put_last κs a r s e f h k = determined.of_lists.put_last a.0.now a.1.0 a.1.1.0 e.0.now f.0.now h k

lists_put_refused : (κs : Lfts 2) (a : Dens κs lists-put-refused-kinds.ps) (r s e f : _)
    → lists-put-refused-reads.Learnt κs a r e → lists-put-refused-reads.Learnt κs a s f
    → (e.0.now.at ≡ f.0.now.at) × (e.0.now.out.now ≡ f.0.now.out.now) × (e.0.now.out.ghost_name ≡ f.0.now.out.ghost_name)
lists_put_refused κs a r s e f h k = determined.of_lists.put_refused a.0.now a.1.0 a.1.1.0 e.0.now f.0.now h k

lists_put-byte : (κs : Lfts 2) (a : Dens κs lists-put-byte-kinds.ps) (r s e f : _)
    → lists-put-byte-reads.Learnt κs a r e → lists-put-byte-reads.Learnt κs a s f
    → (e.0.now.at ≡ f.0.now.at) × (e.0.now.out.now ≡ f.0.now.out.now) × (e.0.now.out.ghost_name ≡ f.0.now.out.ghost_name)
lists_put-byte κs a r s e f h k = determined.of_lists.put_byte a.0.now a.1.0 e.0.now f.0.now h k

lists_put_bytes : (κs : Lfts 3) (a : Dens κs lists-put-bytes-kinds.ps) (r s e f : _)
    → lists-put-bytes-reads.Learnt κs a r e → lists-put-bytes-reads.Learnt κs a s f
    → (e.0.now.at ≡ f.0.now.at) × (e.0.now.out.now ≡ f.0.now.out.now) × (e.0.now.out.ghost_name ≡ f.0.now.out.ghost_name)
lists_put_bytes κs a r s e f h k = determined.of_lists.put_bytes a.0.now a.1.0.now e.0.now f.0.now h k

lists_put-decimal : (κs : Lfts 2) (a : Dens κs lists-put-decimal-kinds.ps) (r s e f : _)
    → lists-put-decimal-reads.Learnt κs a r e → lists-put-decimal-reads.Learnt κs a s f
    → (e.0.now.at ≡ f.0.now.at) × (e.0.now.out.now ≡ f.0.now.out.now) × (e.0.now.out.ghost_name ≡ f.0.now.out.ghost_name)
lists_put-decimal κs a r s e f h k = determined.of_lists.put-decimal a.0.now a.1.0 e.0.now f.0.now h k

-- ---- the clause itself: x' is an argument x at entry and at exit
module _ {M : Type 1} {𝓤 : Ura M} (𝓛 : Logic 𝓤) (mem : Memory → SProp 𝓤) (run : Routine → Fun 𝓤)
    (κs : Lfts 1) where
  image_open : (x : _) (x' : _) (r : Image)
      → image-open-fn.ensures-1 𝓛 κs mem run x x' r ≡ fact 𝓤 (Opened x'.entry r)
  image_open x x' r = refl

  image_fallback : (x : _) (p : ℕ) (x' p' : _) (r : Result ℕ Refusal)
      → image-fallback-fn.ensures-1 𝓛 κs mem run x p x' p' r ≡ fact 𝓤 (FallbackIs x'.entry p r)
  image_fallback x p x' p' r = refl

  image_level : (x : _) (p : ℕ) (x' p' : _) (r : Result ℕ Refusal)
      → image-level-fn.ensures-1 𝓛 κs mem run x p x' p' r ≡ fact 𝓤 (LevelIs x'.entry p r)
  image_level x p x' p' r = refl

  image_mark : (x : _) (p : ℕ) (x' p' : _) (r : Result ℕ Refusal)
      → image-mark-fn.ensures-1 𝓛 κs mem run x p x' p' r ≡ fact 𝓤 (MarkIs x'.entry p r)
  image_mark x p x' p' r = refl

  image_edge : (x : _) (p : ℕ) (a : ℕ) (x' p' a' : _) (r : Result (Option ℕ) Refusal)
      → image-edge-fn.ensures-1 𝓛 κs mem run x p a x' p' a' r ≡ fact 𝓤 (EdgeLeads x'.entry p a r)
  image_edge x p a x' p' a' r = refl

  walk-next : (w : _) (x : _) (a : ℕ) (w' x' a' : _) (r : Result Walk Refusal)
      → walk-next-fn.ensures-1 𝓛 κs mem run w x a w' x' a' r ≡ fact 𝓤 (NextIs w x'.entry a r)
  walk-next w x a w' x' a' r = refl
