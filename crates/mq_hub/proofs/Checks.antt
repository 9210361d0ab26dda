-- The checks of a CONNECT, and identifiers that the broker makes up.
use Rattle.std.proofs.Common.{◌≡◌, ℕ, suc, ◌+◌, ◌-◌, ◌<◌, Bool, true, false, cond, not, ◌&&◌, ◌==◌, List, length, Option, Some, None, refl, ap, ◌∙◌, arith}
use Rattle.std.proofs.lemmas.Bool.{cond-true, cond-false}
use Rattle.std.specs.Option.{is_some, option_or}
use Rattle.mq_packet.specs.declared.connect.Connect.{Connect}
use Rattle.mq_packet.specs.declared.connack.RefusalCode.{RefusalCode}
use Rattle.mq_packet.specs.declared.connack.RefusalCode.TheVariants.{IdentifierRejected, ServerUnavailable}
use Rattle.mq_route.specs.Hub.{HubState, HubSession, key_of}
use Rattle.mq_route.specs.Welcome.{client_of, is_unavailable, refusal_by_tables, made_up, made_up_from, refusal}

-- ---- why a CONNECT is refused

pub rejected : (c : Connect) (h : HubState) → (length c.client_id == 0 && not c.clean_session) ≡ true → refusal c h ≡ Some IdentifierRejected
unfolding refusal
rejected c h so = rw so refl

-- whether there is a place for its client
abbrev placed : Connect → HubState → Option RefusalCode
placed c h = cond (is_unavailable c (key_of (client_of c h.sessions) h.sessions) h) (Some ServerUnavailable) None

not_rejected : (c : Connect) (h : HubState) → (length c.client_id == 0 && not c.clean_session) ≡ false → refusal c h ≡ option_or (refusal_by_tables h.config.users h.config.hashed_users c.login) (placed c h)
unfolding refusal
not_rejected c h other = cond-false (length c.client_id == 0 && not c.clean_session) (Some IdentifierRejected) (option_or (refusal_by_tables h.config.users h.config.hashed_users c.login) (placed c h)) other

pub by_login : (c : Connect) (h : HubState) (code : RefusalCode) → (length c.client_id == 0 && not c.clean_session) ≡ false
    → refusal_by_tables h.config.users h.config.hashed_users c.login ≡ Some code → refusal c h ≡ Some code
by_login c h code other login = not_rejected c h other ∙ ap (λ (o : Option RefusalCode). option_or o (placed c h)) login

pub by_place : (c : Connect) (h : HubState) (full : Bool) → (length c.client_id == 0 && not c.clean_session) ≡ false
    → refusal_by_tables h.config.users h.config.hashed_users c.login ≡ None → is_unavailable c (key_of (client_of c h.sessions) h.sessions) h ≡ full
    → refusal c h ≡ cond full (Some ServerUnavailable) None
by_place c h full other login place =
    not_rejected c h other ∙ ap (λ (o : Option RefusalCode). option_or o (placed c h)) login ∙ ap (λ (b : Bool). cond b (Some ServerUnavailable) None) place

-- ---- identifiers that are made up

pub in_use : (most n : ℕ) (ss : List HubSession) → n < most → is_some (key_of (made_up n) ss) ≡ true → made_up_from (most - n) n ss ≡ made_up_from (most - (n + 1)) (n + 1) ss
in_use most n ss l there =
    let e : most - n ≡ suc (most - (n + 1)) = omega arith in
    ap (λ (m : ℕ). made_up_from m n ss) e ∙ cond-true (is_some (key_of (made_up n) ss)) (made_up_from (most - (n + 1)) (n + 1) ss) (made_up n) there

pub not_in_use : (most n : ℕ) (ss : List HubSession) → n < most → is_some (key_of (made_up n) ss) ≡ false → made_up_from (most - n) n ss ≡ made_up n
not_in_use most n ss l free =
    let e : most - n ≡ suc (most - (n + 1)) = omega arith in
    ap (λ (m : ℕ). made_up_from m n ss) e ∙ cond-false (is_some (key_of (made_up n) ss)) (made_up_from (most - (n + 1)) (n + 1) ss) (made_up n) free

pub at_last : (most n : ℕ) (ss : List HubSession) → n ≡ most → made_up_from (most - n) n ss ≡ made_up most
at_last most n ss same =
    let e : most - n ≡ 0 = omega arith in
    ap (λ (m : ℕ). made_up_from m n ss) e ∙ ap made_up same
