-- Letters and marks of a text, by the byte that each is.
use Rattle.std.specs.Prelude.{ℕ}

-- ends a field
abbrev pub tab : ℕ
tab = 9

-- ends a line
abbrev pub lf : ℕ
lf = 10

-- `!`: what follows is a refusal's number
abbrev pub bang : ℕ
bang = 33

-- `*`
abbrev pub star : ℕ
star = 42

-- `-`: nothing to tell
abbrev pub dash : ℕ
dash = 45

-- `?`: a line of no known name
abbrev pub what : ℕ
what = 63

-- small letters
abbrev pub a : ℕ
a = 97

abbrev pub b : ℕ
b = 98

abbrev pub c : ℕ
c = 99

abbrev pub d : ℕ
d = 100

abbrev pub e : ℕ
e = 101

abbrev pub f : ℕ
f = 102

abbrev pub g : ℕ
g = 103

abbrev pub h : ℕ
h = 104

abbrev pub i : ℕ
i = 105

abbrev pub j : ℕ
j = 106

abbrev pub k : ℕ
k = 107

abbrev pub l : ℕ
l = 108

abbrev pub m : ℕ
m = 109

abbrev pub n : ℕ
n = 110

abbrev pub o : ℕ
o = 111

abbrev pub p : ℕ
p = 112

abbrev pub q : ℕ
q = 113

abbrev pub r : ℕ
r = 114

abbrev pub s : ℕ
s = 115

abbrev pub t : ℕ
t = 116

abbrev pub u : ℕ
u = 117

abbrev pub v : ℕ
v = 118

abbrev pub w : ℕ
w = 119

abbrev pub x : ℕ
x = 120

abbrev pub y : ℕ
y = 121

abbrev pub z : ℕ
z = 122
