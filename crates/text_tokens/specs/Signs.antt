-- What begins with a symbol or a dot: the arrow, an operator, or none; the last of the tests by which a token starts.
use Rattle.std.specs.Prelude.{ℕ, ◌+◌, not, ◌&&◌, List, eqb, get_or}
use Rattle.types.specs.declared.Token.{Token}
use Rattle.meaning.specs.Lists.{pick}
use Rattle.meaning.specs.Names.{byte}
use Rattle.meaning.specs.Tokens.{is_symbol, comment_sign, token, arrow, no_token, symbols_at, dotted_at}
use Rattle.text_marks.specs.Hyphens.{hyphen_before}

unfoldable pub sign_at : List ℕ → ℕ → Token
sign_at text i =
    let b = get_or text i 0 in
    let o = symbols_at text i in
    let d = dotted_at text i in
    pick (hyphen_before text i (byte ">")) (token arrow i (i + 2))
    (pick (is_symbol b && not (comment_sign text i)) o
    (pick (eqb b (byte ".")) d
    (token no_token i i)))
