-- The meaning of a text as a loopback file.
use Rattle.std.specs.Prelude.{◌≡◌, ℕ, List}
use Rattle.mq_loopback.specs.declared.client.Client.{Client}
use Rattle.mq_loopback.specs.File.{AreClients, IsBadLine}

-- The laws of loopback files.
pub record FileLaws : Type 0 where
  -- lines are at most one list of clients
  pub one_list : (lines : List (List ℕ)) (first second : List Client) → AreClients first lines → AreClients second lines → first ≡ second
  -- lines that are clients have no bad line
  pub not_both : (lines : List (List ℕ)) (clients : List Client) (line : ℕ) → AreClients clients lines → ¬ IsBadLine lines line
  -- there is at most one
  pub one_bad : (lines : List (List ℕ)) (other line : ℕ) → IsBadLine lines other → IsBadLine lines line → other ≡ line
