-- A shift has exactly the lanes closed that are shut, from one event to the next.
use Rattle.std.proofs.Common.{◌≡◌, ℕ, ◌<◌, ◌⊎◌, List, [], ◌∷◌, ◌++◌, length, Ok, Err, sym, ap, subst, inl, inr, arith}
use Rattle.plant.specs.Closed.{without}
use Rattle.search.specs.declared.call.Call.{Call}
use Rattle.search.specs.declared.call.Call.TheVariants.{Close, Reopen}
use Rattle.search.specs.declared.reply.Done.TheVariants.{Closed, Reopened, Searched as Told}
use Rattle.search.specs.Lists.{In}
use Rattle.search.specs.Calls.{Reply, Event, event}
use Rattle.search.specs.Moment.{Closes, Reopens, Shut}
use Rattle.search.specs.Life.{Held}
use Rattle.search.specs.Served.{closed_after}
use Rattle.search.proofs.Events.{shut_new, shut_old, shut_was}
use Rattle.search.proofs.Numbers.{in_without, without_in, distinct_without, length_without}

pub held_none : {C : Type 0} → Held {C = C} [] []
held_none {C} = record { exactly = λ n. (λ h. absurd h, λ s. absurd (none n s)); distinct = tt; few = omega arith }
  where
    none : (n : ℕ) → Shut {C = C} [] n → ⊥
    none n s = let e = s.there in let z : ◌≡◌ {A = ℕ} 0 1 = cc in omega arith

-- neither an accepted close nor an accepted reopen
abbrev pub Mild : {C : Type 0} → Reply C → Type 0
Mild (Ok (Closed n)) = ⊥
Mild (Ok (Reopened n)) = ⊥
Mild (Ok (Told a from)) = Unit {0}
Mild (Err x) = Unit {0}

module _ {C : Type 0} (events : List (Event C)) (closed : List ℕ) (h : Held events closed) where
  held_quiet : (x : Event C) → ((n : ℕ) → Closes x n ⊎ Reopens x n → ⊥) → Held (events ++ x ∷ []) closed
  held_quiet x quiet = record { exactly = λ n. (λ i. shut_old events x n ((h.exactly n).0 i) (quiet n), back n); distinct = h.distinct; few = h.few }
    where
      back : (n : ℕ) → Shut (events ++ x ∷ []) n → In n closed
      back n s = elim (shut_was events x n s) [ inl c ↦ absurd (quiet n (inl c)) | inr (o, p) ↦ (h.exactly n).1 o ]

  pub held_mild : (c : Call) (r : Reply C) → Mild r → Held (events ++ event c r ∷ []) (closed_after closed r)
  held_mild c (Ok (Closed n)) m = absurd m
  held_mild c (Ok (Reopened n)) m = absurd m
  held_mild c (Ok (Told a from)) m = held_quiet (event c (Ok (Told a from))) (λ n. elim [ inl (p, q) ↦ (let z : ◌≡◌ {A = ℕ} 0 1 = cc in omega arith) | inr (p, q) ↦ (let z : ◌≡◌ {A = ℕ} 0 1 = cc in omega arith) ])
  held_mild c (Err b) m = held_quiet (event c (Err b)) (λ n. elim [ inl (p, q) ↦ (let z : ◌≡◌ {A = ℕ} 0 1 = cc in omega arith) | inr (p, q) ↦ (let z : ◌≡◌ {A = ℕ} 0 1 = cc in omega arith) ])

  pub held_close : (n : ℕ) → (In n closed → ⊥) → length closed < 64 → Held (events ++ event (Close n) (Ok (Closed n)) ∷ []) (n ∷ closed)
  held_close n fresh room = record { exactly = λ m. (to m, back m); distinct = (fresh, h.distinct); few = omega arith }
    where
      x : Event C
      x = event (Close n) (Ok (Closed n))

      touched : (m : ℕ) → Closes x m ⊎ Reopens x m → m ≡ n
      touched m (inl (p, q)) = cc
      touched m (inr (p, q)) = absurd (let z : ◌≡◌ {A = ℕ} 0 1 = cc in omega arith)

      to : (m : ℕ) → In m (n ∷ closed) → Shut (events ++ x ∷ []) m
      to m (inl e) = shut_new events x m (ap Close (sym e), ap (λ y. Ok (Closed y)) (sym e))
      to m (inr i) = shut_old events x m ((h.exactly m).0 i) (λ t. fresh (subst (λ y. In y closed) (touched m t) i))

      back : (m : ℕ) → Shut (events ++ x ∷ []) m → In m (n ∷ closed)
      back m s = elim (shut_was events x m s) [ inl c ↦ inl (touched m (inl c)) | inr (o, p) ↦ inr ((h.exactly m).1 o) ]

  pub held_reopen : (n : ℕ) → Held (events ++ event (Reopen n) (Ok (Reopened n)) ∷ []) (without n closed)
  held_reopen n = record { exactly = λ m. (to m, back m); distinct = distinct_without n closed h.distinct; few = (let a = length_without n closed in let b = h.few in omega arith) }
    where
      x : Event C
      x = event (Reopen n) (Ok (Reopened n))

      touched : (m : ℕ) → Closes x m ⊎ Reopens x m → m ≡ n
      touched m (inl (p, q)) = absurd (let z : ◌≡◌ {A = ℕ} 0 1 = cc in omega arith)
      touched m (inr (p, q)) = cc

      to : (m : ℕ) → In m (without n closed) → Shut (events ++ x ∷ []) m
      to m i = let r = in_without n closed m i in shut_old events x m ((h.exactly m).0 r.0) (λ t. r.1 (touched m t))

      back : (m : ℕ) → Shut (events ++ x ∷ []) m → In m (without n closed)
      back m s = elim (shut_was events x m s) [ inl (p, q) ↦ absurd (let z : ◌≡◌ {A = ℕ} 0 1 = cc in omega arith) | inr (o, p) ↦ without_in n closed m ((h.exactly m).1 o) (λ e. p (ap Reopen (sym e), ap (λ y. Ok (Reopened y)) (sym e))) ]
