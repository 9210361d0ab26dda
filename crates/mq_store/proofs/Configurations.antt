-- The users of a configuration, one after another.
use Rattle.std.proofs.Common.{◌≡◌, ℕ, ◌+◌, ◌<◌, List, [], ◌∷◌, ◌++◌, length, take, get_or, refl, sym, ap, ◌∙◌, append_assoc, add-one}
use Rattle.std.proofs.Math.Seq.{take-suc}
use Rattle.std.proofs.lemmas.List.{append-nil}
use Rattle.mq_route.specs.declared.config.HashedUser.{HashedUser}
use Rattle.mq_route.specs.declared.config.User.{User}
use Rattle.mq_store.specs.Configuration.{hashed_bytes, hashed_users_bytes, user_bytes, users_bytes}

users_both : (xs ys : List User) → users_bytes (xs ++ ys) ≡ users_bytes xs ++ users_bytes ys
users_both [] ys = refl
users_both (x ∷ xs) ys =
    ap (λ (l : List ℕ). user_bytes x ++ l) (users_both xs ys)
    ∙ sym (append_assoc (user_bytes x) (users_bytes xs) (users_bytes ys))

hashed_both : (xs ys : List HashedUser) → hashed_users_bytes (xs ++ ys) ≡ hashed_users_bytes xs ++ hashed_users_bytes ys
hashed_both [] ys = refl
hashed_both (x ∷ xs) ys =
    ap (λ (l : List ℕ). hashed_bytes x ++ l) (hashed_both xs ys)
    ∙ sym (append_assoc (hashed_bytes x) (hashed_users_bytes xs) (hashed_users_bytes ys))

pub users_more : (front out next : List ℕ) (users : List User) (i : ℕ) (user : User) → i < length users → user ≡ get_or users i user
    → out ≡ front ++ users_bytes (take i users) → next ≡ out ++ user_bytes user → next ≡ front ++ users_bytes (take (i + 1) users)
users_more front out next users i user within is so_far here =
    here
    ∙ ap (λ (l : List ℕ). l ++ user_bytes user) so_far
    ∙ append_assoc front (users_bytes (take i users)) (user_bytes user)
    ∙ ap (λ (l : List ℕ). front ++ (users_bytes (take i users) ++ l)) (sym (append-nil (user_bytes user)))
    ∙ ap (λ (l : List ℕ). front ++ l) (sym (users_both (take i users) (user ∷ [])))
    ∙ ap (λ (l : List User). front ++ users_bytes l)
    (sym (ap (λ (n : ℕ). take n users) (add-one i) ∙ (take-suc users i user within ∙ ap (λ (u : User). take i users ++ u ∷ []) (sym is))))

pub hashed_more : (front out next : List ℕ) (users : List HashedUser) (i : ℕ) (user : HashedUser) → i < length users → user ≡ get_or users i user
    → out ≡ front ++ hashed_users_bytes (take i users) → next ≡ out ++ hashed_bytes user → next ≡ front ++ hashed_users_bytes (take (i + 1) users)
hashed_more front out next users i user within is so_far here =
    here
    ∙ ap (λ (l : List ℕ). l ++ hashed_bytes user) so_far
    ∙ append_assoc front (hashed_users_bytes (take i users)) (hashed_bytes user)
    ∙ ap (λ (l : List ℕ). front ++ (hashed_users_bytes (take i users) ++ l)) (sym (append-nil (hashed_bytes user)))
    ∙ ap (λ (l : List ℕ). front ++ l) (sym (hashed_both (take i users) (user ∷ [])))
    ∙ ap (λ (l : List HashedUser). front ++ hashed_users_bytes l)
    (sym (ap (λ (n : ℕ). take n users) (add-one i) ∙ (take-suc users i user within ∙ ap (λ (u : HashedUser). take i users ++ u ∷ []) (sym is))))
