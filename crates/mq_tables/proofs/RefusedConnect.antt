-- A connection that waits for its CONNECT is closed, with pending output.
use Rattle.std.proofs.Common.{◌≡◌, ℕ, Bool, true, false, List, [], ◌∷◌, refl, sym, ap, ap₂, ◌∙◌}
use Rattle.std.proofs.lemmas.Bool.{cond-true, cond-false}
use Rattle.mq_route.specs.declared.conn.Conn.{Conn}
use Rattle.mq_route.specs.Hub.{HubConnection, changed, is_connection, with_connection}
use Rattle.mq_route.specs.Routed.{same_conn}

-- ---- one change of a connection after another

pub changed_twice : (k : Conn) (f g : HubConnection → HubConnection) → ((x : HubConnection) → (f x).conn ≡ x.conn) → (xs : List HubConnection) → with_connection g k (with_connection f k xs) ≡ with_connection (λ x. g (f x)) k xs
changed_twice k f g names [] = refl
changed_twice k f g names (x ∷ xs) = ap₂ (λ (y : HubConnection) (ys : List HubConnection). y ∷ ys) (one (is_connection k x) refl) (changed_twice k f g names xs)
  where
    one : (b : Bool) → is_connection k x ≡ b → changed g k (changed f k x) ≡ changed (λ y. g (f y)) k x
    one true e =
        ap (changed g k) (cond-true (is_connection k x) (f x) x e) ∙ cond-true (is_connection k (f x)) (g (f x)) (f x) (ap (λ (n : Conn). same_conn n k) (names x) ∙ e)
        ∙ sym (cond-true (is_connection k x) (g (f x)) x e)
    one false e =
        ap (changed g k) (cond-false (is_connection k x) (f x) x e) ∙ cond-false (is_connection k x) (g x) x e ∙ sym (cond-false (is_connection k x) (g (f x)) x e)

-- ---- a connection is closed, and bytes wait on it

abbrev pub filled : List ℕ → HubConnection → HubConnection
filled b x = record x { waiting = b }
