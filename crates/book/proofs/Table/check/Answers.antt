-- `check` meets its contract. `left k` is what is judged from row 7 + k of the table on: an answer that is given past
-- some rows is that of the table. Assumes nothing.
use mathlib.Core.Path.{◌≡◌, sym, ap, ◌∙◌}
use mathlib.Core.List.{List}
use Prim.Native.Nat.{ℕ}
use Rattle.std.specs.Prelude.{Option}
use lib.ListN.{drop}
use Rattle.std.proofs.Common.{rules}
use borrow.Author.Tests.{eq-eqb, ne_eqb}
use Rattle.meaning.specs.Answer.{Answer, refused, judged, faulty}
use Rattle.meaning.specs.declared.Reason.TheVariants.{Spare, Order, Target, Entry, Exit}
use Rattle.book.specs.Form.{state_record_at}
use Rattle.book.specs.Model.{first_edge}
use Rattle.book.specs.Rules.{state_fault, edge_fault, table_rules}
use Rattle.book.specs.Reads.{StateIs, state_breaks, edge_breaks, state_broken, own_broken, own_fault}
use Rattle.book.specs.declared.StateRecord.{StateRecord}
use Rattle.book.proofs.Cases.{err_is}
use Rattle.book.proofs.Turn.{faulty_or, order_is}
use Rattle.book.proofs.Table.check.Goals as goal

mark_of : {x r : StateRecord} → StateIs x r → x.mark ≡ r.mark
mark_of w = ap (λ (y : StateRecord). y.mark) (sym w.is)

abbrev Passes : ℕ → Option ℕ → Type 0
Passes n o = (x : Answer) → x ≡ faulty n o x

module _ (t : List ℕ) (S E : ℕ) (x : Answer) where
  abbrev left : ℕ → Answer
  left k = judged (drop k (table_rules t S E)) x

  -- the searches of the rows 7 (over states, over edges), 9, 10 and 12
  abbrev states_7 : Option ℕ
  states_7 = state_fault (state_broken (state_breaks Spare) t S E) S

  abbrev edges_7 : Option ℕ
  edges_7 = own_fault (edge_breaks Spare S) t S 0 0 E

  abbrev edges_9 : Option ℕ
  edges_9 = edge_fault (own_broken (edge_breaks Order S) t S) t S

  abbrev edges_10 : Option ℕ
  edges_10 = edge_fault (own_broken (edge_breaks Target S) t S) t S

  abbrev states_12 : Option ℕ
  states_12 = state_fault (state_broken (state_breaks Entry) t S E) S

  module _ {y : Answer} where
    first_7 : y ≡ faulty 7 states_7 (faulty 7 edges_7 (left 1)) → y ≡ left 0
    first_7 e = e ∙ sym (faulty_or 7 states_7 edges_7 (left 1))

  module _ {y : Answer} (spare : Passes 7 states_7) where
    from_7 : y ≡ faulty 7 edges_7 (left 1) → y ≡ left 0
    from_7 e = first_7 (e ∙ spare (faulty 7 edges_7 (left 1)))

    module _ (spare_edge : Passes 7 edges_7) where
      at_8 : (first_edge t S ≡ E → ⊥) → y ≡ refused 8 0 → y ≡ left 0
      at_8 n e =
          let here : left 1 ≡ refused 8 0 = rw (ne_eqb _ _ n) in
          from_7 (e ∙ sym here ∙ spare_edge (left 1))

      module _ (sum : first_edge t S ≡ E) where
        from_9 : y ≡ faulty 9 edges_9 (left 3) → y ≡ left 0
        from_9 e =
            let passed : left 1 ≡ left 2 = rw (eq-eqb _ _ sum) in
            let here : left 2 ≡ faulty 9 edges_9 (left 3) = rw (order_is t S) in
            from_7 (e ∙ sym here ∙ sym passed ∙ spare_edge (left 1))

        module _ (order : Passes 9 edges_9) where
          from_10 : y ≡ left 3 → y ≡ left 0
          from_10 e = from_9 (e ∙ order (left 3))

          module _ (target : Passes 10 edges_10) where
            at_11 : ((state_record_at t 0).mark ≡ 0 → ⊥) → y ≡ refused 11 0 → y ≡ left 0
            at_11 n e =
                let here : left 4 ≡ refused 11 0 = rw (ne_eqb _ _ n) in
                from_10 (e ∙ sym here ∙ target (left 4))

            module _ (start : (state_record_at t 0).mark ≡ 0) where
              from_12 : y ≡ left 5 → y ≡ left 0
              from_12 e =
                  let passed : left 4 ≡ left 5 = rw (eq-eqb _ _ start) in
                  from_10 (e ∙ sym passed ∙ target (left 4))

              from_13 : Passes 12 states_12 → y ≡ left 6 → y ≡ left 0
              from_13 entry e = from_12 (e ∙ entry (left 6))

pub returns-in_err-check_states : goal.returns-in_err-check_states
returns-in_err-check_states c =
    let table = c.args.self in
    λ x. rw (err_is _ c.from_residual.ensures.1)
    (first_7 table.bytes.now table.states c.args.edges x
    (c.in_err-check_states.ensures (state_breaks Spare) (λ _ _ _ _ p. search rules) c.args.edges c.entered-has.ensures _))

pub returns-in_err-check_own : goal.returns-in_err-check_own
returns-in_err-check_own c =
    let table = c.args.self in
    let spare =
    c.in_ok-check_states.ensures (state_breaks Spare) (λ _ _ _ _ p. search rules) c.args.edges c.entered-has.ensures in
    λ x. rw (err_is _ c.from_residual-in_err-check_own.ensures.1)
    (from_7 table.bytes.now table.states c.args.edges x spare
    (c.in_err-check_own.ensures (edge_breaks Spare table.states) (λ _ _ _ _ p. search rules) _))

pub returns-then-count_sum-edges : goal.returns-then-count_sum-edges
returns-then-count_sum-edges c =
    let table = c.args.self in
    let spare =
    c.in_ok-check_states.ensures (state_breaks Spare) (λ _ _ _ _ p. search rules) c.args.edges c.entered-has.ensures in
    let spare_edge = c.in_ok-check_own.ensures (edge_breaks Spare table.states) (λ _ _ _ _ p. search rules) in
    λ x. at_8 table.bytes.now table.states c.args.edges x spare spare_edge
    (λ e. c.if-count_sum-edges.true (c.count_sum.ensures ∙ e)) (rw c.into.ensures)

pub returns-in_err-check_edges : goal.returns-in_err-check_edges
returns-in_err-check_edges c =
    let table = c.args.self in
    let spare =
    c.in_ok-check_states.ensures (state_breaks Spare) (λ _ _ _ _ p. search rules) c.args.edges c.entered-has.ensures in
    let spare_edge = c.in_ok-check_own.ensures (edge_breaks Spare table.states) (λ _ _ _ _ p. search rules) in
    let sum = sym c.count_sum.ensures ∙ c.if-count_sum-edges.false in
    λ x. rw (err_is _ c.from_residual-in_err-check_edges.ensures.1)
    (from_9 table.bytes.now table.states c.args.edges x spare spare_edge sum
    (c.in_err-check_edges.ensures (edge_breaks Order table.states) (λ _ _ _ _ p. search rules) _))

pub returns-in_err-check_edges-2 : goal.returns-in_err-check_edges-2
returns-in_err-check_edges-2 c =
    let table = c.args.self in
    let spare =
    c.in_ok-check_states.ensures (state_breaks Spare) (λ _ _ _ _ p. search rules) c.args.edges c.entered-has.ensures in
    let spare_edge = c.in_ok-check_own.ensures (edge_breaks Spare table.states) (λ _ _ _ _ p. search rules) in
    let sum = sym c.count_sum.ensures ∙ c.if-count_sum-edges.false in
    let order = c.in_ok-check_edges.ensures (edge_breaks Order table.states) (λ _ _ _ _ p. search rules) in
    λ x. rw (err_is _ c.from_residual-in_err-check_edges-2.ensures.1)
    (from_10 table.bytes.now table.states c.args.edges x spare spare_edge sum order
    (c.in_err-check_edges-2.ensures (edge_breaks Target table.states) (λ _ _ _ _ p. search rules) _))

pub returns-then-state_at-ne0 : goal.returns-then-state_at-ne0
returns-then-state_at-ne0 c =
    let table = c.args.self in
    let spare =
    c.in_ok-check_states.ensures (state_breaks Spare) (λ _ _ _ _ p. search rules) c.args.edges c.entered-has.ensures in
    let spare_edge = c.in_ok-check_own.ensures (edge_breaks Spare table.states) (λ _ _ _ _ p. search rules) in
    let sum = sym c.count_sum.ensures ∙ c.if-count_sum-edges.false in
    let order = c.in_ok-check_edges.ensures (edge_breaks Order table.states) (λ _ _ _ _ p. search rules) in
    let target = c.in_ok-check_edges-2.ensures (edge_breaks Target table.states) (λ _ _ _ _ p. search rules) in
    λ x. at_11 table.bytes.now table.states c.args.edges x spare spare_edge sum order target
    (λ e. c.if-state_at-ne0.true (sym (mark_of c.state_at.ensures) ∙ e)) (rw c.into-then-state_at-ne0.ensures)

pub returns-in_err-check_states-2 : goal.returns-in_err-check_states-2
returns-in_err-check_states-2 c =
    let table = c.args.self in
    let spare =
    c.in_ok-check_states.ensures (state_breaks Spare) (λ _ _ _ _ p. search rules) c.args.edges c.entered-has.ensures in
    let spare_edge = c.in_ok-check_own.ensures (edge_breaks Spare table.states) (λ _ _ _ _ p. search rules) in
    let sum = sym c.count_sum.ensures ∙ c.if-count_sum-edges.false in
    let order = c.in_ok-check_edges.ensures (edge_breaks Order table.states) (λ _ _ _ _ p. search rules) in
    let target = c.in_ok-check_edges-2.ensures (edge_breaks Target table.states) (λ _ _ _ _ p. search rules) in
    let start = mark_of c.state_at.ensures ∙ c.if-state_at-ne0.false in
    λ x. rw (err_is _ c.from_residual-in_err-check_states-2.ensures.1)
    (from_12 table.bytes.now table.states c.args.edges x spare spare_edge sum order target start
    (c.in_err-check_states-2.ensures (state_breaks Entry) (λ _ _ _ _ p. search rules) c.args.edges c.entered-has.ensures _))

pub returns : goal.returns
returns c =
    let table = c.args.self in
    let spare =
    c.in_ok-check_states.ensures (state_breaks Spare) (λ _ _ _ _ p. search rules) c.args.edges c.entered-has.ensures in
    let spare_edge = c.in_ok-check_own.ensures (edge_breaks Spare table.states) (λ _ _ _ _ p. search rules) in
    let sum = sym c.count_sum.ensures ∙ c.if-count_sum-edges.false in
    let order = c.in_ok-check_edges.ensures (edge_breaks Order table.states) (λ _ _ _ _ p. search rules) in
    let target = c.in_ok-check_edges-2.ensures (edge_breaks Target table.states) (λ _ _ _ _ p. search rules) in
    let start = mark_of c.state_at.ensures ∙ c.if-state_at-ne0.false in
    let entry =
    c.in_ok-check_states-2.ensures (state_breaks Entry) (λ _ _ _ _ p. search rules) c.args.edges c.entered-has.ensures in
    λ x. from_13 table.bytes.now table.states c.args.edges x spare spare_edge sum order target start entry
    (c.check_states-3.ensures (state_breaks Exit) (λ _ _ _ _ p. search rules) c.args.edges c.entered-has.ensures x)
