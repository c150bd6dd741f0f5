-- A token has one kind.
use Rattle.std.proofs.Common.{◌≡◌, false, true, refl}
use Rattle.lin_ldf.specs.Symbols.{is_kind}
use Rattle.lin_ldf.specs.declared.token.TokenKind.{TokenKind}
use Rattle.lin_ldf.specs.declared.token.TokenKind.TheVariants as kinds

pub word_is : (k : TokenKind) → is_kind kinds.Word k ≡ true → k ≡ kinds.Word
word_is kinds.Word e = refl
word_is kinds.Number e = absurd cc
word_is kinds.Text e = absurd cc
word_is kinds.OpenBrace e = absurd cc
word_is kinds.CloseBrace e = absurd cc
word_is kinds.Colon e = absurd cc
word_is kinds.Semicolon e = absurd cc
word_is kinds.Comma e = absurd cc
word_is kinds.Equals e = absurd cc
word_is kinds.Other e = absurd cc

pub number_is : (k : TokenKind) → is_kind kinds.Number k ≡ true → k ≡ kinds.Number
number_is kinds.Word e = absurd cc
number_is kinds.Number e = refl
number_is kinds.Text e = absurd cc
number_is kinds.OpenBrace e = absurd cc
number_is kinds.CloseBrace e = absurd cc
number_is kinds.Colon e = absurd cc
number_is kinds.Semicolon e = absurd cc
number_is kinds.Comma e = absurd cc
number_is kinds.Equals e = absurd cc
number_is kinds.Other e = absurd cc

pub open_brace_is : (k : TokenKind) → is_kind kinds.OpenBrace k ≡ true → k ≡ kinds.OpenBrace
open_brace_is kinds.Word e = absurd cc
open_brace_is kinds.Number e = absurd cc
open_brace_is kinds.Text e = absurd cc
open_brace_is kinds.OpenBrace e = refl
open_brace_is kinds.CloseBrace e = absurd cc
open_brace_is kinds.Colon e = absurd cc
open_brace_is kinds.Semicolon e = absurd cc
open_brace_is kinds.Comma e = absurd cc
open_brace_is kinds.Equals e = absurd cc
open_brace_is kinds.Other e = absurd cc

pub close_brace_is : (k : TokenKind) → is_kind kinds.CloseBrace k ≡ true → k ≡ kinds.CloseBrace
close_brace_is kinds.Word e = absurd cc
close_brace_is kinds.Number e = absurd cc
close_brace_is kinds.Text e = absurd cc
close_brace_is kinds.OpenBrace e = absurd cc
close_brace_is kinds.CloseBrace e = refl
close_brace_is kinds.Colon e = absurd cc
close_brace_is kinds.Semicolon e = absurd cc
close_brace_is kinds.Comma e = absurd cc
close_brace_is kinds.Equals e = absurd cc
close_brace_is kinds.Other e = absurd cc

pub semicolon_is : (k : TokenKind) → is_kind kinds.Semicolon k ≡ true → k ≡ kinds.Semicolon
semicolon_is kinds.Word e = absurd cc
semicolon_is kinds.Number e = absurd cc
semicolon_is kinds.Text e = absurd cc
semicolon_is kinds.OpenBrace e = absurd cc
semicolon_is kinds.CloseBrace e = absurd cc
semicolon_is kinds.Colon e = absurd cc
semicolon_is kinds.Semicolon e = refl
semicolon_is kinds.Comma e = absurd cc
semicolon_is kinds.Equals e = absurd cc
semicolon_is kinds.Other e = absurd cc

-- a kind isn't another one
pub is_other_kind : (a b k : TokenKind) → k ≡ a → is_kind b a ≡ false → is_kind b k ≡ false
is_other_kind a b k e other = rw e other
