-- The run over every image. run_nil, run_take, run-stop, run_by: its step laws. What it comes to: run_taken, run-walk
-- (the walk over what it took), run_records, run_room, run_stops. In parts: run_parts, run_halts, run_continues,
-- run-listing, run_left. With room enough all is taken: run_all, run-whole; and when at least one event is: run_moves,
-- run_moves_count. Where levels are right: run-below, run-level (the law of steps), run_less, run_fewer. Assumes
-- nothing.
use mathlib.Core.Path.{◌≡◌, refl, sym, ap, ◌∙◌, subst}
use mathlib.Core.List.{List, [], ◌∷◌, ◌++◌, append_assoc}
use Prim.Native.Nat.{ℕ, suc, ◌+◌, ◌-◌, ◌≤◌, ◌<◌}
use native.Mathlib.Omega.{arith}
use lib.ListN.{length, get_or, take, drop, length-append, take-append-drop}
use lib.Seq.{length-take-le, take-length}
use lib.Dec.{leb}
use borrow.Author.Tests.{leb-true, leb-false, le-leb, lt-leb}
use Rattle.meaning.specs.Text.{Text}
use Rattle.meaning.specs.Questions.{Image, Levels}
use Rattle.meaning.specs.Walk.{Stand, stand, next, walk}
use Rattle.meaning.specs.Records.{Record, records_at, Outcome, stopped, after, run}
use Rattle.meaning.proofs.Cases.{by_bool}
use Rattle.meaning.proofs.Records.{records_few}
use Rattle.meaning.proofs.Walk.{next-below, walk-append, walk-below, walk-level, walk_less}

one_add : (n : ℕ) → 1 + n ≡ suc n
one_add n = omega arith

-- two runs on end; one of nothing
after-after : (m n s r : ℕ) (rs ss : List Record) (o : Outcome)
    → after m rs s (after n ss r o) ≡ after (m + n) (rs ++ ss) (s + r) o
after-after m n s r rs ss o =
    let e : m + (n + o.taken) ≡ m + n + o.taken = omega arith in
    let f : s + (r + o.steps) ≡ s + r + o.steps = omega arith in
    let g : rs ++ (ss ++ o.records) ≡ rs ++ ss ++ o.records = sym (append_assoc rs ss o.records) in
    λ i. record { taken = e i; place = o.place; records = g i; steps = f i }

after_none : (o : Outcome) → after 0 [] 0 o ≡ o
after_none o =
    let e : 0 + o.taken ≡ o.taken = omega arith in
    let f : 0 + o.steps ≡ o.steps = omega arith in
    λ i. record { taken = e i; place = o.place; records = o.records; steps = f i }

module _ (M : Image) where
  -- where an event leads, and the records there
  abbrev pub to : ℕ → ℕ → ℕ
  to p a = (next M p a).place

  abbrev pub its : ℕ → ℕ → ℕ → List Record
  its e p a = records_at M (suc e) (to p a)

  -- the records of all events of a text that follows on the place p after e events
  abbrev pub listing : ℕ → ℕ → Text → List Record
  listing e p [] = []
  listing e p (a ∷ t) = its e p a ++ listing (suc e) (to p a) t

  pub run_nil : (room e p : ℕ) → run M room e p [] ≡ stopped p
  unfolding run
  run_nil room e p = refl

  pub run_take : (room e p a : ℕ) (log : List ℕ) → length (its e p a) ≤ room
      → run M room e p (a ∷ log)
      ≡ after 1 (its e p a) (next M p a).failed (run M (room - length (its e p a)) (suc e) (to p a) log)
  unfolding run
  run_take room e p a log l = rw (le-leb (length (its e p a)) room l)

  pub run-stop : (room e p a : ℕ) (log : List ℕ) → room < length (its e p a) → run M room e p (a ∷ log) ≡ stopped p
  unfolding run
  run-stop room e p a log l = rw (lt-leb (length (its e p a)) room l)

  -- A FACT OF EVERY RUN by its three cases
  pub run_by : (P : ℕ → ℕ → ℕ → List ℕ → Outcome → Type 0) → ((room e p : ℕ) → P room e p [] (stopped p))
      → ((room e p a : ℕ) (log : List ℕ) → room < length (its e p a) → P room e p (a ∷ log) (stopped p))
      → ((room e p a : ℕ) (log : List ℕ) (o : Outcome) → length (its e p a) ≤ room
      → P (room - length (its e p a)) (suc e) (to p a) log o
      → P room e p (a ∷ log) (after 1 (its e p a) (next M p a).failed o))
      → (room e p : ℕ) (log : List ℕ) → P room e p log (run M room e p log)
  run_by P pn ps pt room e p [] = subst (λ (o : Outcome). P room e p [] o) (sym (run_nil room e p)) (pn room e p)
  run_by P pn ps pt room e p (a ∷ log) =
      let n = length (its e p a) in
      let o = run M (room - n) (suc e) (to p a) log in
      let ih = run_by P pn ps pt (room - n) (suc e) (to p a) log in
      by_bool (leb n room)
      (λ b.
      let l = leb-true n room b in
      subst (λ (o : Outcome). P room e p (a ∷ log) o) (sym (run_take room e p a log l)) (pt room e p a log o l ih))
      (λ b.
      let l = leb-false n room b in
      subst (λ (o : Outcome). P room e p (a ∷ log) o) (sym (run-stop room e p a log l)) (ps room e p a log l))

  pub run_taken : (room e p : ℕ) (log : List ℕ) → (run M room e p log).taken ≤ length log
  run_taken =
      run_by (λ room e p log o. o.taken ≤ length log) (λ room e p. omega arith) (λ room e p a log l. omega arith)
      (λ room e p a log o l i. omega arith)

  -- place and failure steps are those of the walk over the events taken
  pub run-walk : (room e p : ℕ) (log : List ℕ)
      → walk M p (take (run M room e p log).taken log)
      ≡ stand (run M room e p log).place (run M room e p log).steps
  run-walk =
      run_by (λ room e p log o. walk M p (take o.taken log) ≡ stand o.place o.steps) (λ room e p. refl)
      (λ room e p a log l. refl)
      (λ room e p a log o l i.
      ap (λ (n : ℕ). walk M p (take n (a ∷ log))) (one_add o.taken)
      ∙ ap (λ (s : Stand). stand s.place ((next M p a).failed + s.failed)) i)

  -- the records are those of the events taken
  pub run_records : (room e p : ℕ) (log : List ℕ)
      → (run M room e p log).records ≡ listing e p (take (run M room e p log).taken log)
  run_records =
      run_by (λ room e p log o. o.records ≡ listing e p (take o.taken log)) (λ room e p. refl)
      (λ room e p a log l. refl)
      (λ room e p a log o l i.
      ap (λ (rs : List Record). its e p a ++ rs) i
      ∙ sym (ap (λ (n : ℕ). listing e p (take n (a ∷ log))) (one_add o.taken)))

  pub run_room : (room e p : ℕ) (log : List ℕ) → length (run M room e p log).records ≤ room
  run_room =
      run_by (λ room e p log o. length o.records ≤ room) (λ room e p. omega arith) (λ room e p a log l. omega arith)
      (λ room e p a log o l i. omega (arith, length-append (its e p a) o.records))

  -- the records of the first event that the outcome did not take do not fit on top of its own
  abbrev pub Stops : ℕ → ℕ → ℕ → List ℕ → Outcome → Type 0
  Stops room e p log o =
      o.taken < length log
      → room < length o.records + length (its (e + o.taken) o.place (get_or log o.taken 0))

  -- WHERE IT STOPS: the next event's records do not fit in what is left
  pub run_stops : (room e p : ℕ) (log : List ℕ) → Stops room e p log (run M room e p log)
  run_stops =
      run_by Stops (λ room e p l. absurd (let w : ⊥ = omega arith in w))
      (λ room e p a log l k. let z = ap (λ (n : ℕ). length (its n p a)) (zero_right e) in omega arith)
      (λ room e p a log o l i k.
      let j = i (omega arith) in
      let u = length-append (its e p a) o.records in
      let v = ap (λ (n : ℕ). length (its n o.place (get_or log o.taken 0))) (shift e o.taken) in
      let w = ap (λ (n : ℕ). length (its (e + (1 + o.taken)) o.place (get_or (a ∷ log) n 0))) (one_add o.taken) in
      omega arith)
    where
      zero_right : (e : ℕ) → e + 0 ≡ e
      zero_right e = omega arith

      shift : (e n : ℕ) → suc e + n ≡ e + (1 + n)
      shift e n = omega arith

  -- the same run, its numbers written another way
  run-same : {room room' e e' : ℕ} (p : ℕ) (log : List ℕ) → room ≡ room' → e ≡ e'
      → run M room e p log ≡ run M room' e' p log
  run-same p log f g = λ i. run M (f i) (g i) p log

  -- the outcome over s, and then a run over t with place, count and room carried on
  abbrev pub Joined : ℕ → ℕ → List ℕ → List ℕ → Outcome → Outcome
  Joined room e s t o =
      after (length s) o.records o.steps (run M (room - length o.records) (e + length s) o.place t)

  -- IN PARTS: where the first part is taken whole, the second goes on with place, count and room
  pub run_parts : (room e p : ℕ) (s t : List ℕ) → (run M room e p s).taken ≡ length s
      → run M room e p (s ++ t) ≡ Joined room e s t (run M room e p s)
  run_parts room e p s t =
      run_by Parts
      (λ room e p z. sym (after_none (run M (room - 0) (e + 0) p t) ∙ run-same p t (omega arith) (omega arith)))
      (λ room e p a s l z. absurd (let w : ⊥ = omega arith in w))
      (λ room e p a s o l i z.
      let n = length (its e p a) in
      let f = (next M p a).failed in
      let u = length-append (its e p a) o.records in
      run_take room e p a (s ++ t) l
      ∙ ap (λ (x : Outcome). after 1 (its e p a) f x) (i (omega arith))
      ∙ after-after 1 (length s) f o.steps (its e p a) o.records
      (run M (room - n - length o.records) (suc e + length s) o.place t)
      ∙ joined room e s o (its e p a) f n u)
      room e p s
    where
      Parts : ℕ → ℕ → ℕ → List ℕ → Outcome → Type 0
      Parts room e p s o = o.taken ≡ length s → run M room e p (s ++ t) ≡ Joined room e s t o

      joined : (room e : ℕ) (s : List ℕ) (o : Outcome) (rs : List Record) (f n : ℕ)
          → length (rs ++ o.records) ≡ n + length o.records
          → after (1 + length s) (rs ++ o.records) (f + o.steps)
          (run M (room - n - length o.records) (suc e + length s) o.place t)
          ≡ after (suc (length s)) (rs ++ o.records) (f + o.steps)
          (run M (room - length (rs ++ o.records)) (e + suc (length s)) o.place t)
      joined room e s o rs f n u =
          let g : room - n - length o.records ≡ room - length (rs ++ o.records) = omega arith in
          let h : suc e + length s ≡ e + suc (length s) = omega arith in
          λ i. after (one_add (length s) i) (rs ++ o.records) (f + o.steps) (run M (g i) (h i) o.place t)

  -- where it is not, nothing of the second is
  pub run_halts : (room e p : ℕ) (s t : List ℕ) → (run M room e p s).taken < length s
      → run M room e p (s ++ t) ≡ run M room e p s
  run_halts room e p s t =
      run_by (λ room e p s o. o.taken < length s → run M room e p (s ++ t) ≡ o)
      (λ room e p l. absurd (let w : ⊥ = omega arith in w)) (λ room e p a s l k. run-stop room e p a (s ++ t) l)
      (λ room e p a s o l i k.
      run_take room e p a (s ++ t) l
      ∙ ap (λ (x : Outcome). after 1 (its e p a) (next M p a).failed x) (i (omega arith)))
      room e p s

  -- the outcome, and then a run over what it left, with as much room as is given
  abbrev pub Continued : ℕ → ℕ → List ℕ → Outcome → Outcome
  Continued more e log o =
      after o.taken o.records o.steps (run M more (e + o.taken) o.place (drop o.taken log))

  -- TAKEN UP AGAIN: with the room that the records took and more, the same events and then a run over those left
  pub run_continues : (more room e p : ℕ) (log : List ℕ)
      → run M (length (run M room e p log).records + more) e p log ≡ Continued more e log (run M room e p log)
  run_continues more =
      run_by Goes (λ room e p. start e p []) (λ room e p a log l. start e p (a ∷ log))
      (λ room e p a log o l i.
      let rs = its e p a in
      let f = (next M p a).failed in
      let n = o.taken in
      let u = length-append rs o.records in
      let g : length (rs ++ o.records) + more - length rs ≡ length o.records + more = omega arith in
      let h : suc e + n ≡ e + (1 + n) = omega arith in
      run_take (length (rs ++ o.records) + more) e p a log (omega arith)
      ∙ ap (λ (x : Outcome). after 1 rs f x) (run-same (to p a) log g refl ∙ i)
      ∙ after-after 1 n f o.steps rs o.records (run M more (suc e + n) o.place (drop n log))
      ∙ (λ j. after (1 + n) (rs ++ o.records) (f + o.steps)
      (run M more (h j) o.place (drop (sym (one_add n) j) (a ∷ log)))))
    where
      Goes : ℕ → ℕ → ℕ → List ℕ → Outcome → Type 0
      Goes room e p log o = run M (length o.records + more) e p log ≡ Continued more e log o

      start : (e p : ℕ) (log : List ℕ) → run M (0 + more) e p log ≡ after 0 [] 0 (run M more (e + 0) p log)
      start e p log = run-same p log (omega arith) (omega arith) ∙ sym (after_none (run M more (e + 0) p log))

  pub listing-append : (e p : ℕ) (s t : Text)
      → listing e p (s ++ t) ≡ listing e p s ++ listing (e + length s) (walk M p s).place t
  listing-append e p [] t = ap (λ (n : ℕ). listing n p t) (let w : e ≡ e + 0 = omega arith in w)
  listing-append e p (a ∷ s) t =
      let h : suc e + length s ≡ e + suc (length s) = omega arith in
      let q = to p a in
      ap (λ (rs : List Record). its e p a ++ rs)
      (listing-append (suc e) q s t ∙ ap (λ (n : ℕ). listing (suc e) q s ++ listing n (walk M q s).place t) h)
      ∙ sym (append_assoc (its e p a) (listing (suc e) q s) (listing (e + suc (length s)) (walk M q s).place t))

  -- the list of the whole log: what the run wrote, and the list of what it left
  pub run-listing : (room e p : ℕ) (log : List ℕ)
      → listing e p log
      ≡ (let o = run M room e p log in
      o.records ++ listing (e + o.taken) o.place (drop o.taken log))
  run-listing room e p log =
      let o = run M room e p log in
      let s = take o.taken log in
      let t = drop o.taken log in
      let len : length s ≡ o.taken = length-take-le o.taken log (run_taken room e p log) in
      let at : (walk M p s).place ≡ o.place = ap (λ (w : Stand). w.place) (run-walk room e p log) in
      ap (λ (u : Text). listing e p u) (sym (take-append-drop o.taken log)) ∙ listing-append e p s t
      ∙ (λ i. sym (run_records room e p log) i ++ listing (e + len i) (at i) t)

  -- and the walk over the whole log
  pub run_left : (room e p : ℕ) (log : List ℕ)
      → walk M p log
      ≡ (let o = run M room e p log in
      let w = walk M o.place (drop o.taken log) in
      stand w.place (o.steps + w.failed))
  run_left room e p log =
      let o = run M room e p log in
      let t = drop o.taken log in
      ap (λ (u : Text). walk M p u) (sym (take-append-drop o.taken log)) ∙ walk-append M p (take o.taken log) t
      ∙ ap (λ (r : Stand). stand (walk M r.place t).place (r.failed + (walk M r.place t).failed))
      (run-walk room e p log)

  -- with room for all records the whole log is taken
  pub run_all : (room e p : ℕ) (log : List ℕ) → length (listing e p log) ≤ room → (run M room e p log).taken ≡ length log
  run_all =
      run_by (λ room e p log o. length (listing e p log) ≤ room → o.taken ≡ length log) (λ room e p l. refl)
      (λ room e p a log l k.
      let u = length-append (its e p a) (listing (suc e) (to p a) log) in
      absurd (let w : ⊥ = omega arith in w))
      (λ room e p a log o l i k.
      let u = length-append (its e p a) (listing (suc e) (to p a) log) in
      let j = i (omega arith) in
      omega arith)

  -- THE WHOLE LIST
  pub run-whole : (room e p : ℕ) (log : List ℕ) → (run M room e p log).taken ≡ length log
      → ((run M room e p log).records ≡ listing e p log)
      × (walk M p log ≡ stand (run M room e p log).place (run M room e p log).steps)
  run-whole room e p log z =
      let whole : take (run M room e p log).taken log ≡ log = ap (λ (n : ℕ). take n log) z ∙ take-length log in (
        run_records room e p log ∙ ap (λ (u : Text). listing e p u) whole,
        ap (λ (u : Text). walk M p u) (sym whole) ∙ run-walk room e p log,
      )

  -- with room for the next event's records at least one event is taken
  pub run_moves : (room e p a : ℕ) (log : List ℕ) → length (its e p a) ≤ room → 0 < (run M room e p (a ∷ log)).taken
  run_moves room e p a log l = let u = ap (λ (o : Outcome). o.taken) (run_take room e p a log l) in omega arith

  -- the same event by event: it is taken exactly where its records fit
  pub run-first : (room e p a : ℕ) (log : List ℕ) → 0 < (run M room e p (a ∷ log)).taken → length (its e p a) ≤ room
  run-first room e p a log l =
      by_bool (leb (length (its e p a)) room) (λ b. leb-true (length (its e p a)) room b)
      (λ b.
      let u = ap (λ (o : Outcome). o.taken) (run-stop room e p a log (leb-false (length (its e p a)) room b)) in
      absurd (let w : ⊥ = omega arith in w))

module _ (M : Image) (A : Levels M) where
  pub run-below : (room e p : ℕ) (log : List ℕ) → p < M.count → (run M room e p log).place < M.count
  run-below room e p log b =
      let o = run M room e p log in
      let w = walk-below M A p (take o.taken log) b in
      subst (λ (s : Stand). s.place < M.count) (run-walk M room e p log) w

  -- THE LAW OF STEPS: failure steps and the final level are at most the starting level and the events taken
  pub run-level : (room e p : ℕ) (log : List ℕ) → p < M.count
      → (run M room e p log).steps + M.level (run M room e p log).place ≤ M.level p + (run M room e p log).taken
  run-level room e p log b =
      let o = run M room e p log in
      let n = M.level p + length (take o.taken log) in
      let v : o.steps + M.level o.place ≤ n =
      subst (λ (s : Stand). s.failed + M.level s.place ≤ n) (run-walk M room e p log)
      (walk-level M A p (take o.taken log) b) in
      let l = length-take-le o.taken log (run_taken M room e p log) in
      omega arith

  -- with one event or more, failure steps alone are fewer than that
  pub run_less : (room e p : ℕ) (log : List ℕ) → p < M.count → 0 < (run M room e p log).taken
      → (run M room e p log).steps < M.level p + (run M room e p log).taken
  run_less room e p log b pos =
      let o = run M room e p log in
      let l = length-take-le o.taken log (run_taken M room e p log) in
      let w = some_event (take o.taken log) (omega arith) in
      let v : o.steps < M.level p + length (take o.taken log) =
      subst (λ (s : Stand). s.failed < M.level p + length (take o.taken log)) (run-walk M room e p log) w in
      omega arith
    where
      some_event : (t : Text) → 0 < length t → (walk M p t).failed < M.level p + length t
      some_event [] l = absurd (let w : ⊥ = omega arith in w)
      some_event (a ∷ t) l = walk_less M A p a t b

  -- FROM PLACE 0: at most one step fewer than the events
  pub run_fewer : (room e : ℕ) (log : List ℕ) → 0 < (run M room e 0 log).taken
      → (run M room e 0 log).steps < (run M room e 0 log).taken
  run_fewer room e log pos =
      let l = run_less room e 0 log A.some_place pos in
      let z = A.zero-level in
      omega arith

  -- room for one record fewer than there are places always moves on
  pub run_moves_count : (room e p a : ℕ) (log : List ℕ) → p < M.count → M.count ≤ suc room
      → 0 < (run M room e p (a ∷ log)).taken
  run_moves_count room e p a log b l =
      let k = next-below M A p a b in
      let n = records_few M (suc e) (next M p a).place in
      run_moves M room e p a log (omega arith)
